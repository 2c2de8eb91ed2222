-- A recovery, stage by stage: what is true of the writer before it is true after it. Assumes nothing.
use Rattle.std.proofs.Common.{◌≡◌, ℕ, Bool, true, false, cond, List, [], ◌++◌, length, Some, None, Ok, Err, Option, Result, sym, refl, ap, ◌∙◌, subst, arith}
use Rattle.std.proofs.lemmas.List.{take_all}
use Rattle.packet.specs.Frame.{Packet}
use Rattle.proto.specs.declared.block.ClientOperationHeader.{ClientOperationHeader}
use Rattle.proto.specs.declared.block.ExtendedBlock.{ExtendedBlock}
use Rattle.proto.specs.declared.datanode.Datanode.{Datanode}
use Rattle.proto.specs.declared.fixed.Fixed.{Fixed}
use Rattle.proto.specs.declared.token.Token.{Token}
use Rattle.replace.specs.declared.choice.NoChoice.{NoChoice}
use Rattle.replace.specs.Choice.{choice_of}
use Rattle.chain.specs.declared.link.Link as Link
use Rattle.chain.specs.Meaning.{Seen, SetsUp}
use Rattle.namenode.specs.declared.protocol.NamenodeProtocol as NamenodeProtocol
use Rattle.namenode.specs.Entries.{Entry, Offer, Updates, entry_for}
use Rattle.pipeline.specs.Adding.{Added, Copies, Listed, Offers}
use Rattle.pipeline.specs.Channels.{ChannelView}
use Rattle.pipeline.specs.Offers.{in_form}
use Rattle.pipeline.specs.Replies.{Reply, reply_of}
use Rattle.pipeline.specs.SetUps.{octets_of}
use Rattle.writer.specs.declared.recover.Recovered.{Recovered}
use Rattle.writer.specs.declared.recovery.Replayed.{Replayed}
use Rattle.writer.specs.declared.recovery.SetUp.{SetUp}
use Rattle.writer.specs.declared.recovery.Stamped.{Stamped}
use Rattle.writer.specs.declared.refusal.Refusal.{Refusal}
use Rattle.writer.specs.declared.refusal.Refusal.TheVariants as refusal
use Rattle.writer.specs.declared.state.kind.State.TheVariants.{Closed}
use Rattle.writer.specs.Calls.{Site, UnlessRefused}
use Rattle.writer.specs.Recovering.{Choice, ChoosesIf, needs_datanode, beyond, ClosedBy, AfterUpdate, Resumes, AfterSetUp, Builds, AfterStamp, AfterChoice, IfSurvived, Recovers}
use Rattle.writer.specs.Stages.{TokenAs, StampAs, built_on, recovered, restored}
use Rattle.writer.specs.States.{IsBrokenState}
use Rattle.writer.specs.Views.{View, least_of, held_in, with_state}
use Rattle.runs.specs.History.{History, rebuilt}
use Rattle.runs.specs.Answered.{if_answered, after_stamp, after_choice, if_survived, set_in}
use Rattle.runs.proofs.Invariant.{Fit, Holds, Entered, kept_least}
use Rattle.runs.proofs.Means.{MeansChain, MeansNamenode}
use Rattle.runs.proofs.Replays.{replayed}
use Rattle.runs.proofs.Reopened.{Rebuilt, shut, open_again}

ok_err : {T E : Type 0} (t : T) (e : E) → ◌≡◌ {A = Result T E} (Ok t) (Err e) → ⊥
ok_err t e is = let z : ◌≡◌ {A = ℕ} 0 1 = cc in omega arith

-- from just as many bytes as are kept, a set up keeps them all
set_up_kept : (request : List ℕ) (least : ℕ) (came : Option (List ℕ)) (x y : Seen) → length x.kept ≡ least → SetsUp request least came x y → y.kept ≡ x.kept
set_up_kept request least (Some response) x y e d = ap (λ (z : Seen). z.kept) d.is ∙ take_all least x.kept (omega (arith, e))
set_up_kept request least None x y e d = ap (λ (z : Seen). z.kept) d

-- what was granted had a response, and leaves a set up
granted : (reply : Reply) (came : Option (List ℕ)) (q : Stamped) (p : SetUp) → Ok p ≡ built_on reply q → reply ≡ reply_of came → (came ≡ None → ⊥) × (p.least ≡ q.least)
granted (Ok u) (Some response) q p e is = (λ no. (let z : ◌≡◌ {A = ℕ} 0 1 = cc in omega arith), (let z : p ≡ record { least = q.least; stamp = q.stamp } = cc in ap (λ (k : SetUp). k.least) z))
granted (Ok u) None q p e is = absurd (ok_err u _ is)
granted (Err why) came q p e is = absurd (ok_err p _ e)

-- a stamp goes on with the count before it
stamped_least : (came : Option (ℕ × List ℕ)) (least : ℕ) (q : Stamped × Token) → StampAs came least (Ok q) → q.0.least ≡ least
stamped_least None least q is = absurd (ok_err q _ is)
stamped_least (Some given) least q is = with_token _ is
  where
    with_token : (b : Bool) → TokenAs b least given.0 given.1 (Ok q) → q.0.least ≡ least
    with_token true (token, (held, e)) = let z : q ≡ (record { least = least; stamp = given.0 }, token) = cc in ap (λ (p : Stamped × Token). p.0.least) z
    with_token false e = absurd (ok_err q _ e)

module _ {C N : Type 0} (acts : Link.Ghosts C) (asks : NamenodeProtocol.Ghosts N) (seen : C → Seen) (entry : N → Entry)
    (chains : MeansChain acts seen) (names : MeansNamenode asks entry) where
  -- the choice of a pipeline changes nothing that the far end keeps or has pending
  copies_same : (header : ClientOperationHeader) (nodes : List Datanode) (places : Result (ℕ × ℕ) NoChoice) (s t : ChannelView C) (r : Added) → Copies acts header nodes places s r t → seen t.link ≡ seen s.link
  copies_same header nodes (Err why) s t r d = ap (λ (l : ChannelView C). seen l.link) d.1
  copies_same header nodes (Ok places) s t r d = chains.transferring s.link t.link d.source _ d.copied.reply.came d.copied.reply.acted

  listed_same : (block : ExtendedBlock) (client : Fixed 64) (old : List Datanode) (offer : Offer) (b : Bool) (nodes : List Datanode) (s t : ChannelView C) (r : Added)
      → Listed acts block client old offer b nodes s r t → seen t.link ≡ seen s.link
  listed_same block client old offer true nodes s t r d = copies_same d.header nodes (choice_of nodes old) s t r d.copies
  listed_same block client old offer false nodes s t r d = ap (λ (l : ChannelView C). seen l.link) d.1

  offers_same : (block : ExtendedBlock) (client : Fixed 64) (old table : List Datanode) (came : Option Offer) (nodes : List Datanode) (s t : ChannelView C) (r : Added)
      → Offers acts block client old table came nodes s r t → seen t.link ≡ seen s.link
  offers_same block client old table None nodes s t r d = ap (λ (l : ChannelView C). seen l.link) d.1
  offers_same block client old table (Some offer) nodes s t r d = listed_same block client old offer (in_form offer) nodes s t r d

  chooses_same : (b : Bool) (v : View) (s t : ChannelView C) (n m : N) (r : Choice) (chain : List Datanode) → ChoosesIf acts asks b v s n r chain t m → seen t.link ≡ seen s.link
  chooses_same true v s t n m r chain d = offers_same _ _ _ _ d.adds.came d.list s t d.added d.adds.offers
  chooses_same false v s t n m r chain d = ap (λ (l : ChannelView C). seen l.link) d.2

  module _ (h : History) (v : View) (store : List ℕ) (time : ℕ) (x : Seen) (t : Site C N) (r : Result Recovered Refusal) (broken : IsBrokenState v.state) (f : Fit v (length store)) (holds : Holds h v store x) where
    -- the writer as it was when the recovery began, with what a stage has left
    abbrev at : List ℕ → ChannelView C → N → Site C N
    at frame channel namenode = record { view = v; store = store; frame = frame; channel = channel; namenode = namenode }

    abbrev Kept : Option (List Datanode) → Site C N → Type 0
    Kept set z = Rebuilt (rebuilt h set) v z.view store (seen z.channel.link) (entry z.namenode)

    -- refused at some stage, where the far end keeps what it kept
    ended_keeps : (set : Option (List Datanode)) (why : Refusal) (s : Site C N) → s.view ≡ v → (seen s.channel.link).kept ≡ x.kept → ClosedBy acts asks why s r t → Kept set t
    ended_keeps set why s was same d =
        let closed = shut h v store x (seen s.channel.link) holds same set (entry s.namenode) in
        subst (Kept set) (sym d.1)
        (subst (λ (u : View). Rebuilt (rebuilt h set) v (with_state Closed u) store (seen s.channel.link) (entry s.namenode)) (sym was) closed)

    -- the writer is open again where the namenode has taken the update
    updated_keeps : (accepted : Bool) (q : Replayed) (token : Token) (choice : Option (ℕ × ℕ)) (chain : List Datanode) (told : Result Recovered Refusal) (s : Site C N) (e : Entry)
        → told ≡ cond accepted (Ok (recovered q choice)) (Err refusal.Update) → s.view ≡ cond accepted (restored q.lost q.stamp token chain time v) v
        → (seen s.channel.link).kept ≡ x.kept → (q.lost ≡ None → (seen s.channel.link).pending ≡ held_in v store (length x.kept))
        → Updates (entry_for q.stamp v.len chain) accepted e (entry s.namenode)
        → AfterUpdate acts asks told s r t → Kept (Some chain) t
    updated_keeps true q token choice chain told s e is was same flows new d =
        let both = subst (λ (z : Result Recovered Refusal). AfterUpdate acts asks z s r t) is d in
        let again = open_again h v store x (seen s.channel.link) holds same q.lost q.stamp token chain time (entry s.namenode) broken flows new in
        subst (Kept (Some chain)) (sym both.1)
        (subst (λ (u : View). Rebuilt (rebuilt h (Some chain)) v u store (seen s.channel.link) (entry s.namenode)) (sym was) again)
    updated_keeps false q token choice chain told s e is was same flows new d =
        ended_keeps (Some chain) refusal.Update s was same (subst (λ (z : Result Recovered Refusal). AfterUpdate acts asks z s r t) is d)

    -- from a link with nothing pending, so that what was put again is all that is pending
    resumes_keeps : (q : SetUp) (token : Token) (choice : Option (ℕ × ℕ)) (chain : List Datanode) (frame : List ℕ) (channel : ChannelView C) (n : N)
        → q.least ≡ least_of v → (seen channel.link).kept ≡ x.kept → (seen channel.link).pending ≡ []
        → Resumes acts asks q token choice chain time (at frame channel n) r t → Kept (Some chain) t
    resumes_keeps q token choice chain frame channel n counted same none d =
        let least : q.least ≡ length x.kept = counted ∙ sym (kept_least h v store x f holds) in
        let p = replayed acts seen chains v store q.least f counted frame channel.link d.replayed.replayed d.replayed.lost d.frame d.link d.replays.replays in
        updated_keeps d.updates.accepted d.replayed token choice chain d.told
        (record { view = d.view; store = store; frame = d.frame; channel = record channel { link = d.link }; namenode = d.namenode }) (entry n) d.updates.result d.updates.writer (p.kept ∙ same)
        (λ e. p.pending e ∙ ap (λ (ps : List Packet). ps ++ held_in v store q.least) none ∙ ap (held_in v store) least)
        (names.updating n d.namenode (entry_for d.replayed.stamp v.len chain) d.updates.accepted d.updates.acted) d.follows

    -- y is what the far end had before the set up
    set_up_keeps : (p : Result SetUp Refusal) (reply : Reply) (came : Option (List ℕ)) (q : Stamped) (token : Token) (choice : Option (ℕ × ℕ)) (chain : List Datanode) (request frame : List ℕ) (y : Seen) (channel : ChannelView C) (n : N)
        → p ≡ built_on reply q → reply ≡ reply_of came → q.least ≡ least_of v → SetsUp request q.least came y (seen channel.link) → y ≡ x
        → AfterSetUp acts asks p token choice chain time (at frame channel n) r t → Kept (if_answered came chain) t
    set_up_keeps p reply came q token choice chain request frame y channel n built is counted set same d = by p came built is set d
      where
        long : length y.kept ≡ q.least
        long = ap (λ (z : Seen). length z.kept) same ∙ kept_least h v store x f holds ∙ sym counted

        by : (p : Result SetUp Refusal) (came : Option (List ℕ)) → p ≡ built_on reply q → reply ≡ reply_of came → SetsUp request q.least came y (seen channel.link)
            → AfterSetUp acts asks p token choice chain time (at frame channel n) r t → Kept (if_answered came chain) t
        by (Err why) came built is set d =
            ended_keeps (if_answered came chain) why (at frame channel n) refl (set_up_kept request q.least came y (seen channel.link) long set ∙ ap (λ (z : Seen). z.kept) same) d
        by (Ok p) (Some response) built is set d =
            let g = granted reply (Some response) q p built is in
            resumes_keeps p token choice chain frame channel n (g.1 ∙ counted)
            (set_up_kept request q.least (Some response) y (seen channel.link) long set ∙ ap (λ (z : Seen). z.kept) same)
            (ap (λ (z : Seen). z.pending) set.is) d
        by (Ok p) None built is set d = absurd ((granted reply None q p built is).0 refl)

    builds_keeps : (q : Stamped) (token : Token) (choice : Option (ℕ × ℕ)) (chain : List Datanode) (frame : List ℕ) (channel : ChannelView C) (n : N) → q.least ≡ least_of v → seen channel.link ≡ x
        → (d : Builds acts asks q token choice chain time (at frame channel n) r t) → Kept (if_answered d.sets_up.sets_up.reply.came chain) t
    builds_keeps q token choice chain frame channel n counted same d =
        let u = d.sets_up in
        let came = u.sets_up.reply.came in
        let set = chains.setting channel.link d.channel.link _ _ u.wanted.min_bytes came u.sets_up.reply.acted in
        set_up_keeps d.set_up u.reply came q token choice chain (octets_of u.sets_up.message) frame (seen channel.link) d.channel n u.is u.sets_up.reply.is counted
        (subst (λ (m : ℕ). SetsUp (octets_of u.sets_up.message) m came (seen channel.link) (seen d.channel.link)) u.wants.of_least set) same d.follows

    -- what was asked before the set up changes nothing that the far end has
    stamped_keeps : (q : Result (Stamped × Token) Refusal) (came : Option (ℕ × List ℕ)) (choice : Option (ℕ × ℕ)) (chain : List Datanode) (frame : List ℕ) (channel : ChannelView C) (n : N) → StampAs came (least_of v) q → seen channel.link ≡ x
        → (d : AfterStamp acts asks q choice chain time (at frame channel n) r t) → Kept (after_stamp acts asks time r t q choice chain (at frame channel n) d) t
    stamped_keeps (Ok q) came choice chain frame channel n is same d = builds_keeps q.0 q.1 choice chain frame channel n (stamped_least came (least_of v) q is) same d
    stamped_keeps (Err why) came choice chain frame channel n is same d = ended_keeps None why (at frame channel n) refl (ap (λ (z : Seen). z.kept) same) d

    chosen_keeps : (q : Choice) (chain : List Datanode) (frame : List ℕ) (channel : ChannelView C) (n : N) → seen channel.link ≡ x
        → (d : AfterChoice acts asks q chain time (at frame channel n) r t) → Kept (after_choice acts asks time r t q chain (at frame channel n) d) t
    chosen_keeps (Ok choice) chain frame channel n same d = stamped_keeps d.stamped d.stamps.came choice chain frame channel d.namenode d.stamps.is same d.follows
    chosen_keeps (Err why) chain frame channel n same d = ended_keeps None _ (at frame channel n) refl (ap (λ (z : Seen). z.kept) same) d

    survived_keeps : (o : Option Refusal) (frame : List ℕ) (channel : ChannelView C) (n : N) → seen channel.link ≡ x
        → (d : IfSurvived acts asks o time (at frame channel n) r t) → Kept (if_survived acts asks time r t o (at frame channel n) d) t
    survived_keeps (Some why) frame channel n same d = ended_keeps None why (at frame channel n) refl (ap (λ (z : Seen). z.kept) same) d
    survived_keeps None frame channel n same d =
        chosen_keeps d.choice d.chain frame d.channel d.namenode (chooses_same (needs_datanode v) v channel d.channel n d.namenode d.choice d.chain d.chooses ∙ same) d.follows

  -- the step of a run
  pub recovered_keeps : (h : History) (o : Option Refusal) (time : ℕ) (s t : Site C N) (r : Result Recovered Refusal)
      → (o ≡ None → IsBrokenState s.view.state) → Fit s.view (length s.store) → Holds h s.view s.store (seen s.channel.link) → Entered s.view h.chain (entry s.namenode)
      → (d : UnlessRefused o (Recovers acts asks time) s r t)
      → Rebuilt (rebuilt h (set_in acts asks time r t o s d)) s.view t.view s.store (seen t.channel.link) (entry t.namenode)
  recovered_keeps h None time s t r broken f holds entered d =
      survived_keeps h s.view s.store time (seen s.channel.link) t r (broken refl) f holds (beyond s.view) s.frame s.channel s.namenode refl d
  recovered_keeps h (Some why) time s t r broken f holds entered d =
      subst (λ (z : Site C N). Rebuilt h s.view z.view s.store (seen z.channel.link) (entry z.namenode)) (sym d.1)
      (record { holds = holds; entered = entered; terms = refl })
