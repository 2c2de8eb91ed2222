-- A writer that changes its state alone: it breaks or closes, and keeps what it has. Assumes nothing.
use Rattle.std.proofs.Common.{◌≡◌, ℕ, true, List, ◌++◌, length, refl, ap, ◌∙◌}
use Rattle.std.proofs.lemmas.Bool.{false≢true}
use Rattle.packet.specs.Frame.{Packet}
use Rattle.held.proofs.Packets.{bytes_same}
use Rattle.chain.specs.Meaning.{Seen}
use Rattle.writer.specs.declared.cause.Cause.{Cause}
use Rattle.writer.specs.declared.state.kind.State.{State}
use Rattle.writer.specs.declared.state.kind.State.TheVariants.{Streaming, Finishing, Broken, Complete, Closed}
use Rattle.writer.specs.Sizes.{capacity}
use Rattle.writer.specs.States.{ended, listens}
use Rattle.writer.specs.Views.{View, with_state, broken_by, filling_in}
use Rattle.runs.specs.History.{History}
use Rattle.runs.specs.Law.{Whole}
use Rattle.runs.proofs.Invariant.{Flows, Sofar, Confirmed, Holds, IsOpen}
use Rattle.runs.proofs.Keeps.{Keeps}

-- which packet is the last does not change the bytes
pub whole_as : (h : History) (v : View) (s : State) (store : List ℕ) (x : Seen) → Whole h v store x → Whole h (with_state s v) store x
whole_as h v s store x e =
    ap (λ (l : List ℕ). x.kept ++ (l ++ filling_in v store)) (bytes_same v.terms.size.chunk (capacity v.terms) v.terms.slots v.sizes store (ended s) (ended v.state) v.count v.first (length x.kept) (length x.kept)) ∙ e

pub closes : (h : History) (v : View) (store : List ℕ) (x : Seen) → Holds h v store x → Keeps h v (with_state Closed v) store x
closes h v store x k = record {
  holds = record {
    store_len = k.store_len;
    whole = whole_as h v Closed store x k.whole;
    len = k.len;
    flows = tt;
    told = k.told;
    confirmed = tt;
  };
  stamp = refl;
  terms = refl;
  opens = λ no. absurd no;
}

-- a pipeline that is whole
pub so_far : (s : State) (first count : ℕ) (ps : List Packet) → listens s ≡ true → Confirmed s first count ps → Sofar first ps
so_far Streaming first count ps e c = c
so_far Finishing first count ps e c = c
so_far (Broken cause finished) first count ps e c = c
so_far Complete first count ps e c = absurd (false≢true e)
so_far Closed first count ps e c = absurd (false≢true e)

pub is_open : (s : State) → listens s ≡ true → IsOpen s
is_open Streaming e = tt
is_open Finishing e = tt
is_open (Broken cause finished) e = tt
is_open Complete e = tt
is_open Closed e = absurd (false≢true e)

pub flowing : (s : State) (ps qs : List Packet) → listens s ≡ true → Flows s ps qs → ps ≡ qs
flowing Streaming ps qs e f = f
flowing Finishing ps qs e f = f
flowing (Broken cause finished) ps qs e f = absurd (false≢true e)
flowing Complete ps qs e f = absurd (false≢true e)
flowing Closed ps qs e f = absurd (false≢true e)

-- a pipeline that is whole has all held packets pending, and none of those before them was the last
pub flows_as : (s : State) (ps qs : List Packet) → ps ≡ qs → Flows s ps qs
flows_as Streaming ps qs e = e
flows_as Finishing ps qs e = e
flows_as (Broken cause finished) ps qs e = tt
flows_as Complete ps qs e = tt
flows_as Closed ps qs e = tt

pub confirmed_as : (s : State) (first count : ℕ) (ps : List Packet) → listens s ≡ true → Sofar first ps → Confirmed s first count ps
confirmed_as Streaming first count ps e c = c
confirmed_as Finishing first count ps e c = c
confirmed_as (Broken cause finished) first count ps e c = c
confirmed_as Complete first count ps e c = absurd (false≢true e)
confirmed_as Closed first count ps e c = absurd (false≢true e)

pub breaks : (h : History) (v : View) (cause : Cause) (store : List ℕ) (x : Seen) → listens v.state ≡ true → Holds h v store x → Keeps h v (broken_by cause v) store x
breaks h v cause store x whole k = record {
  holds = record {
    store_len = k.store_len;
    whole = k.whole;
    len = k.len;
    flows = tt;
    told = k.told;
    confirmed = so_far v.state v.first v.count h.confirmed whole k.confirmed;
  };
  stamp = refl;
  terms = refl;
  opens = λ o. is_open v.state whole;
}

pub stays : (h : History) (v : View) (store : List ℕ) (x : Seen) → Holds h v store x → Keeps h v v store x
stays h v store x k = record { holds = k; stamp = refl; terms = refl; opens = λ o. o }
