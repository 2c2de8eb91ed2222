-- Runs: any calls on an open writer, in any order, each on what the one before left. A step is nothing but the contract of
-- its call. Assumes nothing.
use Rattle.std.specs.Borrow.{Bor}
use Rattle.std.specs.Prelude.{ℕ, List, [], ◌∷◌, length, Result, ◌≢◌}
use Rattle.chain.specs.declared.link.Link as Link
use Rattle.chain.specs.Meaning.{Seen}
use Rattle.namenode.specs.declared.protocol.NamenodeProtocol as NamenodeProtocol
use Rattle.pipeline.specs.Channels.{channel_over}
use Rattle.writer.specs.declared.admit.Call.TheVariants as call
use Rattle.writer.specs.declared.beat.Beat.{Beat}
use Rattle.writer.specs.declared.finish.Finished.{Finished}
use Rattle.writer.specs.declared.heed.Heeded.{Heeded}
use Rattle.writer.specs.declared.recover.Recovered.{Recovered}
use Rattle.writer.specs.declared.refusal.Refusal.{Refusal}
use Rattle.writer.specs.declared.state.Writer.{Writer}
use Rattle.writer.specs.declared.write.Written.{Written}
use Rattle.writer.specs.Admits.{refusal_for, lengths_of}
use Rattle.writer.specs.Beating.{Beats}
use Rattle.writer.specs.Calls.{streamer_of, listener_of, site_of, UnlessRefused}
use Rattle.writer.specs.Finishing.{finish_refusal, Finishes}
use Rattle.writer.specs.Heeding.{Heeds}
use Rattle.writer.specs.Recovering.{Recovers}
use Rattle.writer.specs.Views.{view_of}
use Rattle.writer.specs.Writing.{Wrote}
use Rattle.runs.specs.declared.command.Command.{Command}
use Rattle.runs.specs.declared.command.Command.TheVariants as command
use Rattle.runs.specs.declared.command.Outcome.{Outcome}
use Rattle.runs.specs.declared.command.Outcome.TheVariants as outcome
use Rattle.runs.specs.History.{History, wrote, heard, rebuilt}
use Rattle.runs.specs.Answered.{set_in}

-- a writer with its own store, its pipeline and its namenode, and what has happened so far
pub record Point (C N : Type 0) : Type 0 where
  pub history : History
  pub writer : Writer
  pub store : List ℕ
  pub link : C
  pub namenode : N

abbrev pub point_of : {C N : Type 0} → History → Writer → List ℕ → C → N → Point C N
point_of h w store c n = record { history = h; writer = w; store = store; link = c; namenode = n }

-- the store that a call is handed, before and after: the writer's own, or one of another length, which leaves the writer's own as it was
pub data Lends : List ℕ → List ℕ → List ℕ → List ℕ → Type 0 where
  own : {before after : List ℕ} → Lends before after before after
  other : {store before after : List ℕ} → (length before ≢ length store)
      → Lends store store before after

module _ {C N : Type 0} (acts : Link.Ghosts C) (asks : NamenodeProtocol.Ghosts N) (seen : C → Seen) where
  -- a call, from one point to the next, with any buffers
  pub data Step : Command → Point C N → Outcome → Point C N → Type 0 where
    writes : {q : Point C N} (bytes : Bor (List ℕ))
        (given given' frame frame' request answer store' : List ℕ)
        (r : Result Written Refusal) (w : Writer) (c : C)
        → Lends q.store store' given given'
        → UnlessRefused
        (refusal_for (view_of q.writer) call.Write (lengths_of given frame request answer))
        (Wrote acts bytes.now)
        (streamer_of q.writer given frame q.link) r (streamer_of w given' frame' c)
        → Step (command.Write bytes) q (outcome.Wrote r)
        (record q { history = wrote q.history bytes.now r; writer = w; store = store'; link = c })
    heeds : {q : Point C N} (given frame request answer answer' store' : List ℕ)
        (r : Result Heeded Refusal) (w : Writer) (c : C)
        → Lends q.store store' given given
        → UnlessRefused
        (refusal_for (view_of q.writer) call.Heed (lengths_of given frame request answer))
        (Heeds acts)
        (listener_of q.writer q.link answer) r (listener_of w c answer')
        → Step command.Heed q (outcome.Heard r)
        (record q {
          history = heard q.history (seen q.link).pending (seen c).pending r;
          writer = w;
          store = store';
          link = c;
        })
    beats : {q : Point C N} (time : ℕ) (given frame frame' request answer store' : List ℕ)
        (r : Result Beat Refusal) (w : Writer) (c : C)
        → Lends q.store store' given given
        → UnlessRefused
        (refusal_for (view_of q.writer) call.Beat (lengths_of given frame request answer))
        (Beats acts time)
        (streamer_of q.writer given frame q.link) r (streamer_of w given frame' c)
        → Step (command.Beat time) q (outcome.Beaten r)
        (record q { writer = w; store = store'; link = c })
    finishes : {q : Point C N} (given frame frame' request answer store' : List ℕ)
        (r : Result Finished Refusal) (w : Writer) (c : C)
        → Lends q.store store' given given
        → UnlessRefused
        (finish_refusal (view_of q.writer) (lengths_of given frame request answer))
        (Finishes acts)
        (streamer_of q.writer given frame q.link) r (streamer_of w given frame' c)
        → Step command.Finish q (outcome.Ended r)
        (record q { writer = w; store = store'; link = c })
    recovers : {q : Point C N} (time : ℕ)
        (given frame frame' request request' answer answer' store' : List ℕ)
        (r : Result Recovered Refusal) (w : Writer) (c : C) (n : N)
        → Lends q.store store' given given
        → (d : UnlessRefused
        (refusal_for (view_of q.writer) call.Recover (lengths_of given frame request answer))
        (Recovers acts asks time)
        (site_of q.writer given frame (channel_over q.link request answer) q.namenode) r
        (site_of w given frame' (channel_over c request' answer') n))
        → Step (command.Recover time) q (outcome.Recovered r)
        (record {
          history = rebuilt q.history (set_in acts asks time r
              (site_of w given frame' (channel_over c request' answer') n)
              (refusal_for (view_of q.writer) call.Recover
              (lengths_of given frame request answer))
              (site_of q.writer given frame (channel_over q.link request answer) q.namenode) d);
          writer = w;
          store = store';
          link = c;
          namenode = n;
        })

  -- any list of calls, and what each answered
  pub data Run : List Command → Point C N → List Outcome → Point C N → Type 0 where
    here : {p : Point C N} → Run [] p [] p
    then : {c : Command} {cs : List Command} {o : Outcome} {os : List Outcome} {p r : Point C N}
        (q : Point C N)
        → Step c p o q → Run cs q os r → Run (c ∷ cs) p (o ∷ os) r
