-- Every run keeps the invariant, so that the law holds at its end. Assumes nothing.
use Rattle.std.proofs.Common.{◌≡◌, ℕ, List, length, None, Some, Ok, Err, Option, Result, ◌≢◌, ◌⊎◌, inl, inr, ⊎_elim, sym, refl, ◌∙◌, subst}
use Rattle.chain.specs.declared.link.Link as Link
use Rattle.chain.specs.Meaning.{Seen}
use Rattle.namenode.specs.declared.protocol.NamenodeProtocol as NamenodeProtocol
use Rattle.namenode.specs.Entries.{Entry}
use Rattle.pipeline.specs.Channels.{channel_over}
use Rattle.writer.specs.declared.admit.Call.{Call}
use Rattle.writer.specs.declared.admit.Call.TheVariants as call
use Rattle.writer.specs.declared.beat.Beat.{Beat}
use Rattle.writer.specs.declared.finish.Finished.{Finished}
use Rattle.writer.specs.declared.heed.Heeded.{Heeded}
use Rattle.writer.specs.declared.opening.Opening.{Opening}
use Rattle.writer.specs.declared.recover.Recovered.{Recovered}
use Rattle.writer.specs.declared.refusal.Refusal.{Refusal}
use Rattle.writer.specs.declared.state.Writer.{Writer}
use Rattle.writer.specs.declared.write.Written.{Written}
use Rattle.writer.specs.Admits.{refusal_for, lengths_of}
use Rattle.writer.specs.Beating.{Beats}
use Rattle.writer.specs.Calls.{Streamer, streamer_of, Listener, listener_of, Site, site_of, UnlessRefused}
use Rattle.writer.specs.Finishing.{finish_refusal, Finishes}
use Rattle.writer.specs.Heeding.{Heeds}
use Rattle.writer.specs.Recovering.{Recovers}
use Rattle.writer.specs.Views.{View, view_of}
use Rattle.writer.specs.Writing.{Wrote}
use Rattle.writer.proofs.Admitted.{refused_store}
use Rattle.runs.specs.Begins.{Begins}
use Rattle.runs.specs.History.{History, wrote, heard, rebuilt}
use Rattle.runs.specs.Answered.{set_in}
use Rattle.runs.specs.Law.{Law}
use Rattle.runs.specs.declared.command.Command.{Command}
use Rattle.runs.specs.declared.command.Outcome.{Outcome}
use Rattle.runs.specs.Runs.{Point, point_of, Lends, Step, Run, own, other, here, then, writes, heeds, beats, finishes, recovers}
use Rattle.runs.proofs.Ends.{finished_keeps, beaten_keeps}
use Rattle.runs.proofs.Goes.{streams_write, streams_beat, streams_end, refused_store_end, unless}
use Rattle.runs.proofs.Hearing.{heard_keeps, listens_heed}
use Rattle.runs.proofs.Heeds.{heard_none}
use Rattle.runs.proofs.Invariant.{Fit, fit_of, Holds, Entered}
use Rattle.runs.proofs.Keeps.{Keeps}
use Rattle.runs.proofs.Lawful.{lawful}
use Rattle.runs.proofs.Means.{MeansChain, MeansNamenode}
use Rattle.runs.proofs.Opened.{opened}
use Rattle.runs.proofs.Recovers.{recovered_keeps}
use Rattle.runs.proofs.Reopened.{Rebuilt, breaks_recover}
use Rattle.runs.proofs.States.{stays}
use Rattle.runs.proofs.Writes.{wrote_keeps}

-- the writer's own store, or another, which leaves it
lent : {store store' given given' : List ℕ} → Lends store store' given given' → ((given ≡ store) × (given' ≡ store')) ⊎ ((store' ≡ store) × (length given ≢ length store))
lent own = inl (refl, refl)
lent (other ne) = inr (refl, ne)

-- a store that is only read stays
read_only : {store store' given : List ℕ} → Lends store store' given given → store' ≡ store
read_only own = refl
read_only (other ne) = refl

wrote_chain : (h : History) (bytes : List ℕ) (r : Result Written Refusal) → (wrote h bytes r).chain ≡ h.chain
wrote_chain h bytes (Ok w) = refl
wrote_chain h bytes (Err e) = refl

module _ {C N : Type 0} (acts : Link.Ghosts C) (asks : NamenodeProtocol.Ghosts N) (seen : C → Seen) (entry : N → Entry)
    (chains : MeansChain acts seen) (names : MeansNamenode asks entry) where
  record Invariant (p : Point C N) : Type 0 where
    holds : Holds p.history (view_of p.writer) p.store (seen p.link)
    entered : Entered (view_of p.writer) p.history.chain (entry p.namenode)

  -- a call that the namenode has no part in
  from_keeps : (q : Point C N) (i : Invariant q) (h : History) (w : Writer) (store : List ℕ) (c : C) → h.chain ≡ q.history.chain → Keeps h (view_of q.writer) (view_of w) store (seen c)
      → Invariant (point_of h w store c q.namenode)
  from_keeps q i h w store c e k = record {
    holds = k.holds;
    entered = λ z. let n = i.entered (k.opens z) in record { stamp_is = n.stamp_is ∙ sym k.stamp; ids = rw e n.ids; storages = rw e n.storages };
  }

  module _ (q : Point C N) (i : Invariant q) where
    abbrev view : View
    view = view_of q.writer

    -- on the writer's own store
    on_own : {given : List ℕ} → given ≡ q.store → Holds q.history view given (seen q.link)
    on_own e = subst (λ (z : List ℕ). Holds q.history view z (seen q.link)) (sym e) i.holds

    fit : {given : List ℕ} → Holds q.history view given (seen q.link) → Fit view (length given)
    fit {given} holds = fit_of q.writer (length given) holds.store_len

    -- that store has the length that was settled, so that a call on another is refused
    refused : (given frame request answer : List ℕ) (c : Call) → length given ≢ length q.store → refusal_for view c (lengths_of given frame request answer) ≡ None → ⊥
    refused given frame request answer c ne e = refused_store view c (lengths_of given frame request answer) (λ is. ne (is ∙ sym i.holds.store_len)) e

    heeds_step : (given frame request answer answer' store' : List ℕ) (r : Result Heeded Refusal) (w : Writer) (c : C) → Lends q.store store' given given
        → UnlessRefused (refusal_for view call.Heed (lengths_of given frame request answer)) (Heeds acts) (listener_of q.writer q.link answer) r (listener_of w c answer')
        → Invariant (point_of (heard q.history (seen q.link).pending (seen c).pending r) w store' c q.namenode)
    heeds_step given frame request answer answer' store' r w c lends d =
        let l = lengths_of given frame request answer in
        let k = unless (λ (z : Result Heeded Refusal) (t : Listener C). Keeps (heard q.history (seen q.link).pending (seen t.link).pending z) view t.view q.store (seen t.link))
        (refusal_for view call.Heed l) (Heeds acts) (listener_of q.writer q.link answer) r (listener_of w c answer')
        (λ e. rw (heard_none q.history (seen q.link).pending (Err e) refl) (stays q.history view q.store (seen q.link) i.holds))
        (λ e. heard_keeps acts seen chains q.history q.store (listener_of q.writer q.link answer) (listener_of w c answer') r (listens_heed view l e) (fit i.holds) i.holds) d in
        from_keeps q i _ w store' c refl (subst (λ (s : List ℕ). Keeps (heard q.history (seen q.link).pending (seen c).pending r) view (view_of w) s (seen c)) (sym (read_only lends)) k)

    from_rebuilt : (h : History) (w : Writer) (c : C) (n : N) {store store' : List ℕ} → Rebuilt h view (view_of w) store (seen c) (entry n) → store ≡ store' → Invariant (point_of h w store' c n)
    from_rebuilt h w c n k e = record { holds = subst (λ (z : List ℕ). Holds h (view_of w) z (seen c)) e k.holds; entered = k.entered }

    -- a recovery that is refused leaves everything
    unrecovered : (o : Option Refusal) → (o ≡ None → ⊥) → (time : ℕ) (s t : Site C N) (r : Result Recovered Refusal) → s.view ≡ view → s.channel.link ≡ q.link → s.namenode ≡ q.namenode
        → (d : UnlessRefused o (Recovers acts asks time) s r t)
        → Rebuilt (rebuilt q.history (set_in acts asks time r t o s d)) view t.view q.store (seen t.channel.link) (entry t.namenode)
    unrecovered None never time s t r ev el en d = absurd (never refl)
    unrecovered (Some e) never time s t r ev el en d = rw (d.1, ev, el, en) (record { holds = i.holds; entered = i.entered; terms = refl })

    recovers_step : (time : ℕ) (given frame frame' request request' answer answer' store' : List ℕ) (r : Result Recovered Refusal) (w : Writer) (c : C) (n : N) → Lends q.store store' given given
        → (d : UnlessRefused (refusal_for view call.Recover (lengths_of given frame request answer)) (Recovers acts asks time) (site_of q.writer given frame (channel_over q.link request answer) q.namenode) r (site_of w given frame' (channel_over c request' answer') n))
        → Invariant (point_of (rebuilt q.history (set_in acts asks time r (site_of w given frame' (channel_over c request' answer') n) (refusal_for view call.Recover (lengths_of given frame request answer)) (site_of q.writer given frame (channel_over q.link request answer) q.namenode) d)) w store' c n)
    recovers_step time given frame frame' request request' answer answer' store' r w c n lends d =
        let l = lengths_of given frame request answer in
        let s = site_of q.writer given frame (channel_over q.link request answer) q.namenode in
        let t = site_of w given frame' (channel_over c request' answer') n in
        let o = refusal_for view call.Recover l in
        ⊎_elim
        (λ (own : (given ≡ q.store) × (given ≡ store')).
        let holds = on_own own.0 in
        from_rebuilt _ w c n (recovered_keeps acts asks seen entry chains names q.history o time s t r (breaks_recover view l) (fit holds) holds i.entered d) own.1)
        (λ (other : (store' ≡ q.store) × (length given ≢ length q.store)).
        from_rebuilt _ w c n (unrecovered o (refused given frame request answer call.Recover other.1) time s t r refl refl refl d) (sym other.0))
        (lent lends)

    -- write, beat and finish on the writer's own store, and on another, which refuses them
    from_streamer : {A : Type 0} (h : Result A Refusal → History) (o : Option Refusal) (Acts : Streamer C → Result A Refusal → Streamer C → Type 0)
        (given given' frame frame' store' : List ℕ) (r : Result A Refusal) (w : Writer) (c : C) → Lends q.store store' given given'
        → ((z : Result A Refusal) → (h z).chain ≡ q.history.chain) → ((e : Refusal) → h (Err e) ≡ q.history)
        → (o ≡ None → Holds q.history view given (seen q.link) → Acts (streamer_of q.writer given frame q.link) r (streamer_of w given' frame' c) → Keeps (h r) view (view_of w) given' (seen c))
        → (length given ≢ length q.store → o ≡ None → ⊥)
        → UnlessRefused o Acts (streamer_of q.writer given frame q.link) r (streamer_of w given' frame' c)
        → Invariant (point_of (h r) w store' c q.namenode)
    from_streamer {A} h o Acts given given' frame frame' store' r w c lends chain same keeps never d =
        let p = streamer_of q.writer given frame q.link in
        let u = streamer_of w given' frame' c in
        ⊎_elim
        (λ (own : (given ≡ q.store) × (given' ≡ store')).
        let holds = on_own own.0 in
        let k = unless (λ (z : Result A Refusal) (t : Streamer C). Keeps (h z) view t.view t.store (seen t.link)) o Acts p r u
        (λ e. rw (same e) (stays q.history view given (seen q.link) holds)) (λ e. keeps e holds) d in
        from_keeps q i (h r) w store' c (chain r) (subst (λ (z : List ℕ). Keeps (h r) view (view_of w) z (seen c)) own.1 k))
        (λ (other : (store' ≡ q.store) × (length given ≢ length q.store)).
        let k = unless (λ (z : Result A Refusal) (t : Streamer C). Keeps (h z) view t.view q.store (seen t.link)) o Acts p r u
        (λ e. rw (same e) (stays q.history view q.store (seen q.link) i.holds)) (λ e d. absurd (never other.1 e)) d in
        from_keeps q i (h r) w store' c (chain r) (subst (λ (z : List ℕ). Keeps (h r) view (view_of w) z (seen c)) (sym other.0) k))
        (lent lends)

  stepped : (a : Command) (p : Point C N) (o : Outcome) (q : Point C N) → Invariant p → Step acts asks seen a p o q → Invariant q
  stepped _ p _ _ i (writes bytes given given' frame frame' request answer store' r w c lends d) =
      let l = lengths_of given frame request answer in
      from_streamer p i (wrote p.history bytes.now) (refusal_for (view_of p.writer) call.Write l) (Wrote acts bytes.now) given given' frame frame' store' r w c lends
      (wrote_chain p.history bytes.now) (λ e. refl)
      (λ e holds. wrote_keeps acts seen chains p.history (streamer_of p.writer given frame p.link) (streamer_of w given' frame' c) bytes.now r (streams_write (view_of p.writer) l e) (fit p i holds) holds)
      (refused p i given frame request answer call.Write) d
  stepped _ p _ _ i (heeds given frame request answer answer' store' r w c lends d) = heeds_step p i given frame request answer answer' store' r w c lends d
  stepped _ p _ _ i (beats time given frame frame' request answer store' r w c lends d) =
      let l = lengths_of given frame request answer in
      from_streamer p i (λ (z : Result Beat Refusal). p.history) (refusal_for (view_of p.writer) call.Beat l) (Beats acts time) given given frame frame' store' r w c lends
      (λ z. refl) (λ e. refl)
      (λ e holds. beaten_keeps acts seen chains p.history (streamer_of p.writer given frame p.link) (streamer_of w given frame' c) time r (streams_beat (view_of p.writer) l e) holds)
      (refused p i given frame request answer call.Beat) d
  stepped _ p _ _ i (finishes given frame frame' request answer store' r w c lends d) =
      let l = lengths_of given frame request answer in
      from_streamer p i (λ (z : Result Finished Refusal). p.history) (finish_refusal (view_of p.writer) l) (Finishes acts) given given frame frame' store' r w c lends
      (λ z. refl) (λ e. refl)
      (λ e holds. finished_keeps acts seen chains p.history (streamer_of p.writer given frame p.link) (streamer_of w given frame' c) r (streams_end (view_of p.writer) l e) (fit p i holds) holds)
      (λ other. refused_store_end (view_of p.writer) l (λ is. other (is ∙ sym i.holds.store_len))) d
  stepped _ p _ _ i (recovers time given frame frame' request request' answer answer' store' r w c n lends d) = recovers_step p i time given frame frame' request request' answer answer' store' r w c n lends d

  along : (cs : List Command) (p : Point C N) (os : List Outcome) (q : Point C N) → Invariant p → Run acts asks seen cs p os q → Invariant q
  along _ p _ _ i here = i
  along _ p _ r i (then {c = c} {cs = cs} {o = o} {os = os} q step run) = along cs q os r (stepped c p o q i step) run

  pub every : (o : Opening) (link : C) (p : Point C N) → Begins acts seen entry o link p → (cs : List Command) (os : List Outcome) (q : Point C N) → Run acts asks seen cs p os q → Law seen entry q
  every o link p b cs os q run =
      let began = opened acts seen entry chains o link p b in
      let i = along cs p os q (record { holds = began.0; entered = began.1 }) run in
      lawful seen entry q i.holds i.entered
