-- What each call of a scripted link does to the spool that it keeps its packets in, as an act, and that this is what a chain's act means.
-- Assumes nothing.
use Rattle.std.specs.Prelude.{◌≡◌, ◌≢◌, ℕ, ◌^◌, Bool, true, false, List, [], ◌∷◌, Some, None, Option, refl, replicate, nat_lt}
use Rattle.std.proofs.Common.{sym, ap, ◌∙◌, subst}
use Rattle.std.proofs.lemmas.Bool.{and_parts, ltb-true}
use Rattle.ack.specs.Verdicts.{passes}
use Rattle.request.specs.Setups.{setup_of}
use Rattle.ack.specs.Written.{answer_octets}
use Rattle.ack.proofs.Written.{good_passes}
use Rattle.chain.specs.Acts.{Came, nothing, lost, answer}
use Rattle.chain.specs.Meaning as chain
use Rattle.chain.specs.Meaning.{Passes}
use Rattle.spool.specs.declared.pending.Pending.{Pending}
use Rattle.spool.specs.Calls as spool
use Rattle.spool.specs.Calls.{good}
use Rattle.spool.specs.Counts.{numbered}
use Rattle.spool.specs.Spools.{SpoolView, seen_in, confirms_first}
use Rattle.spool.specs.Meaning as meaning
use Rattle.spool.specs.Meaning.{Whole}

-- whatever response comes, the spool was set up; a set up that is lost changes nothing
abbrev pub Sets : SpoolView → List ℕ → ℕ → Option (List ℕ) → SpoolView → Type 0
Sets v request least (Some response) w = spool.SetsFor (setup_of request) v least w
Sets v request least None w = w ≡ v

-- a frame is taken as the spool takes it; one that is lost leaves the spool, or the spool lost it
abbrev pub Puts : SpoolView → List ℕ → Bool → SpoolView → Type 0
Puts v frame true w = spool.Puts v frame true w
Puts v frame false w = w ≡ v

-- an answer that passes with the first waiting packet's number confirms that packet, and no other changes anything
abbrev pub Confirms : Option ℕ → List Pending → SpoolView → SpoolView → Type 0
Confirms None ps v w = w ≡ v
Confirms (Some n) [] v w = w ≡ v
Confirms (Some n) (p ∷ ps) v w = (n ≡ p.seqno → w ≡ confirms_first v) × ((n ≢ p.seqno) → w ≡ v)

abbrev pub Nexts : SpoolView → Came → SpoolView → Type 0
Nexts v nothing w = w ≡ v
Nexts v lost w = w ≡ v
Nexts v (answer message) w = Confirms (passes message) v.pending v w

pub setting : {v : SpoolView} → Whole v → (w : SpoolView) (request : List ℕ) (least : ℕ) (came : Option (List ℕ)) → Sets v request least came w → chain.SetsUp request least came (seen_in v) (seen_in w)
setting h w request least None e = ap seen_in e
setting h w request least (Some response) e = meaning.setting h w request least (Some good) (refl, e)

pub putting : {v : SpoolView} → Whole v → (w : SpoolView) (frame : List ℕ) (taken : Bool) → Puts v frame taken w → chain.Puts frame taken (seen_in v) (seen_in w)
putting h w frame true e = meaning.putting h w frame true e
putting h w frame false e = ap seen_in e

-- what the spool's own answer to its first packet means is what confirming it means
module _ (v : SpoolView) (p : Pending) (ps : List Pending) where
  abbrev before : SpoolView
  before = record v { pending = p ∷ ps }

  confirmed : Whole before → (w : SpoolView) → w ≡ confirms_first before → (n : ℕ) → n ≡ p.seqno → Passes (Some n) (seen_in before).pending (seen_in before) (seen_in w)
  confirmed h w e n same =
      let own = meaning.answering before w (answer (answer_octets p.seqno (replicate v.nodes 0))) h (refl, e) in
      let small = ltb-true _ _ (and_parts (nat_lt p.seqno (2 ^ 64)) (numbered ps) h.widths).0 in
      subst (λ o. Passes o (seen_in before).pending (seen_in before) (seen_in w)) (good_passes p.seqno v.nodes small ∙ ap Some (sym same)) own

  by_first : Whole before → (w : SpoolView) (n : ℕ) → Confirms (Some n) (p ∷ ps) before w → Passes (Some n) (seen_in before).pending (seen_in before) (seen_in w)
  by_first h w n e = (
    λ same. (confirmed h w (e.0 same) n same).0 same,
    λ other. ap seen_in (e.1 other),
  )

heard : (o : Option ℕ) (v w : SpoolView) → Whole v → Confirms o v.pending v w → Passes o (seen_in v).pending (seen_in v) (seen_in w)
heard None v w h e = ap seen_in e
heard (Some n) v w h e = by_pending v.pending h e
  where
    by_pending : (ps : List Pending) → Whole (record v { pending = ps }) → Confirms (Some n) ps (record v { pending = ps }) w
        → Passes (Some n) (seen_in (record v { pending = ps })).pending (seen_in (record v { pending = ps })) (seen_in w)
    by_pending [] g f = ap seen_in f
    by_pending (p ∷ ps) g f = by_first v p ps g w n f

pub answering : (v w : SpoolView) (came : Came) → Whole v → Nexts v came w → chain.Nexts came (seen_in v) (seen_in w)
answering v w nothing h e = ap seen_in e
answering v w lost h e = ap seen_in e
answering v w (answer message) h e = heard (passes message) v w h e
