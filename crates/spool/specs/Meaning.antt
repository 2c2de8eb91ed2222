-- Each act of a spool moves what it means as a chain's must. Assumes nothing.
use Rattle.std.specs.Prelude.{◌≡◌, ℕ, zero, suc, ◌+◌, ◌-◌, ◌^◌, ◌<◌, ◌≤◌, Bool, true, false, cond, ◌&&◌, List, [], ◌∷◌, ◌++◌, length, take, drop, replicate, Some, None, Option, ◌==◌, nat_le, nat_lt, refl}
use Rattle.std.proofs.Common.{sym, ap, ◌∙◌, zero-add, suc-add, arith}
use Rattle.std.proofs.lemmas.List.{length-take-le, length-drop, take-take, take-append-le, drop-append-le, drop-drop}
use Rattle.std.proofs.lemmas.Bool.{cond-true, cond-false, eqb-true, leb-true, ltb-true, and_parts, false≢true}
use Rattle.std.specs.Str.{bytes_eq}
use Rattle.std.proofs.lemmas.Slice.Eq.{bytes_eq-Decides}
use Rattle.ack.specs.Verdicts.{passes}
use Rattle.ack.specs.Written.{answer_octets}
use Rattle.ack.proofs.Written.{good_passes}
use Rattle.packet.specs.Frame.{Packet}
use Rattle.packet.specs.Reading.{Reads}
use Rattle.packet.specs.Sums.{sums_of}
use Rattle.request.specs.declared.setup.Setup.{Setup}
use Rattle.request.specs.Setups.{setup_of}
use Rattle.chain.specs.Acts.{Came, nothing, lost, answer}
use Rattle.chain.specs.Meaning.{rebuilt, Rebuilds, SetsUp, Passes, Puts, Nexts}
use Rattle.spool.specs.declared.pending.Pending.{Pending}
use Rattle.spool.specs.declared.state.Spool.{Spool}
use Rattle.spool.specs.Calls as calls
use Rattle.spool.specs.Counts.{total, numbered}
use Rattle.spool.specs.Spools.{SpoolView, spool_view, packets_from, seen_in, sets_up, rebuilt_to, takes, with_pending, confirms_first}
use Rattle.spool.specs.Packets.{packets_push}

same_bytes_true : (s t : List ℕ) → bytes_eq s t ≡ true → s ≡ t
same_bytes_true s t e = (bytes_eq-Decides s t).0 e

take_add : (k n : ℕ) (bs : List ℕ) → take (k + n) bs ≡ take k bs ++ take n (drop k bs)
take_add zero n bs = ap (λ z. take z bs) (zero-add n)
take_add (suc k) n [] = ap (λ z. take z []) (suc-add k n) ∙ sym (none n)
  where
    none : (n : ℕ) → take {A = ℕ} n [] ≡ []
    none zero = refl
    none (suc n) = refl
take_add (suc k) n (b ∷ bs) = ap (λ z. take z (b ∷ bs)) (suc-add k n) ∙ ap (λ z. b ∷ z) (take_add k n bs)

-- what is known of a spool's contents
pub record Whole (v : SpoolView) : Type 0 where
  pub adds : v.kept + total v.pending ≡ length v.bytes
  pub widths : numbered v.pending ≡ true

module _ {v : SpoolView} (h : Whole v) where
  kept_within : v.kept ≤ length v.bytes
  kept_within = omega (arith, h.adds)

  kept_long : length (take v.kept v.bytes) ≡ v.kept
  kept_long = length-take-le v.kept v.bytes kept_within

  set_up : (q : Setup) (least : ℕ) → sets_up v (Some q) least ≡ true → (least ≤ v.kept) × (seen_in (rebuilt_to v least q.pipeline_size q.chunk_size) ≡ rebuilt q least (seen_in v))
  set_up q least e =
      let rest = (and_parts (nat_lt 0 q.pipeline_size && nat_le q.pipeline_size v.most) (nat_lt q.chunk_size (2 ^ 32) && nat_le least v.kept) e).1 in
      let enough = leb-true least v.kept (and_parts (nat_lt q.chunk_size (2 ^ 32)) (nat_le least v.kept) rest).1 in
      let k = take-take least least v.bytes (omega arith) ∙ sym (take-take least v.kept v.bytes enough) in
      (enough, λ i. record (rebuilt q least (seen_in v)) { kept = k i })

  pub setting : (w : SpoolView) (request : List ℕ) (least : ℕ) (came : Option (List ℕ)) → calls.Sets v request least came w → SetsUp request least came (seen_in v) (seen_in w)
  setting w request least None e = ap seen_in e
  setting w request least (Some response) e = by_setup (setup_of request) refl e.1
    where
      by_setup : (o : Option Setup) → setup_of request ≡ o → calls.SetsFor o v least w → Rebuilds request least (seen_in v) (seen_in w)
      by_setup None r f = absurd f
      by_setup (Some q) r f =
          let t = set_up q least f.0 in
          record { setup = q; reads = r; enough = omega (arith, t.0, kept_long); is = ap seen_in f.1 ∙ t.1 }

  -- a packet that is taken joins the end of those that wait
  joins : (p : Packet) → takes v p ≡ true → seen_in (with_pending v p) ≡ record (seen_in v) { pending = (seen_in v).pending ++ p ∷ [] }
  joins p e =
      let parts = and_parts (p.offset == length v.bytes) _ e in
      let at = eqb-true _ _ parts.0 in
      let sums = same_bytes_true p.sums (sums_of v.chunk p.bytes) (and_parts (bytes_eq p.sums (sums_of v.chunk p.bytes)) _ parts.1).0 in
      let front = take-append-le v.kept v.bytes p.bytes kept_within in
      let back = drop-append-le v.kept v.bytes p.bytes kept_within in
      let left : total v.pending ≡ length (drop v.kept v.bytes) = omega (arith, h.adds, length-drop v.kept v.bytes) in
      let end : v.kept + length (drop v.kept v.bytes) ≡ p.offset = omega (arith, at, length-drop v.kept v.bytes, kept_within) in
      let q : Pending = record { seqno = p.seqno; last = p.last; len = length p.bytes } in
      let pushed = packets_push v.chunk v.kept v.pending q (drop v.kept v.bytes) p.bytes left refl in
      (λ i. record (seen_in v) { kept = front i; pending = packets_from v.chunk v.kept (v.pending ++ q ∷ []) (back i) })
      ∙ ap (λ z. record (seen_in v) { pending = z })
      (pushed ∙ (λ i. (seen_in v).pending ++ record p { offset = end i; sums = sym sums i } ∷ []))

  put_some : (w : SpoolView) (frame : List ℕ) (p : Packet) (beat fit : Bool) → (p.seqno == 2 ^ 64 - 1) ≡ beat → takes v p ≡ fit → Reads frame (Some p)
      → (taken : Bool) → taken ≡ cond beat true fit → w ≡ cond beat v (cond fit (with_pending v p) v) → Puts frame taken (seen_in v) (seen_in w)
  put_some w frame p true fit b f r true t e =
      record { packet = p; carried = r.0; reads = r.1; is = ap seen_in e ∙ sym (cond-true _ _ _ b) }
  put_some w frame p true fit b f r false t e = absurd (false≢true t)
  put_some w frame p false true b f r true t e =
      record { packet = p; carried = r.0; reads = r.1; is = ap seen_in e ∙ joins p f ∙ sym (cond-false _ _ _ b) }
  put_some w frame p false true b f r false t e = absurd (false≢true t)
  put_some w frame p false false b f r true t e = absurd (false≢true (sym t))
  put_some w frame p false false b f r false t e = ap seen_in e

  pub putting : (w : SpoolView) (frame : List ℕ) (taken : Bool) → calls.Puts v frame taken w → Puts frame taken (seen_in v) (seen_in w)
  putting w frame taken (None, (r, t, e)) = unsent taken t
    where
      unsent : (b : Bool) → b ≡ false → Puts frame b (seen_in v) (seen_in w)
      unsent true q = absurd (false≢true (sym q))
      unsent false q = ap seen_in e
  putting w frame taken (Some p, (r, t, e)) =
      put_some w frame p (p.seqno == 2 ^ 64 - 1) (takes v p) refl refl r taken t e

-- an answer of all nodes confirms the first packet that waits
module _ (v : SpoolView) (p : Pending) (ps : List Pending) where
  abbrev before : SpoolView
  before = record v { pending = p ∷ ps }

  confirming : Whole before → (w : SpoolView) (message : List ℕ) → message ≡ answer_octets p.seqno (replicate v.nodes 0) → w ≡ confirms_first before → Nexts (answer message) (seen_in before) (seen_in w)
  confirming h w message m e = by_number (passes message) (ap passes m ∙ good_passes p.seqno v.nodes small)
    where
      small : p.seqno < 2 ^ 64
      small = ltb-true _ _ (and_parts (nat_lt p.seqno (2 ^ 64)) (numbered ps) h.widths).0

      within : v.kept + p.len ≤ length v.bytes
      within = omega (arith, h.adds)

      -- the bytes kept and those behind them, where those of the packet go over
      moved : seen_in (confirms_first before) ≡ record (seen_in before) { kept = take v.kept v.bytes ++ take p.len (drop v.kept v.bytes); pending = packets_from v.chunk (v.kept + p.len) ps (drop p.len (drop v.kept v.bytes)) }
      moved = λ i. record (seen_in before) {
        kept = take_add v.kept p.len v.bytes i;
        pending = packets_from v.chunk (v.kept + p.len) ps (sym (drop-drop p.len v.kept v.bytes) i);
      }

      by_number : (o : Option ℕ) → o ≡ Some p.seqno → Passes o (seen_in before).pending (seen_in before) (seen_in w)
      by_number None q = let z : ◌≡◌ {A = ℕ} 0 1 = cc in absurd (omega arith)
      by_number (Some n) q = (
        λ same. record { begins = sym (length-take-le v.kept v.bytes (omega (arith, within))); right = refl; is = ap seen_in e ∙ moved },
        λ other. absurd (other cc),
      )

pub answering : (v w : SpoolView) (came : Came) → Whole v → calls.Nexts v came w → Nexts came (seen_in v) (seen_in w)
answering v w nothing h e = ap seen_in e.1
answering v w lost h e = ap seen_in e
answering v w (answer message) h e = by_pending v.pending h e
  where
    by_pending : (ps : List Pending) → Whole (record v { pending = ps }) → calls.AnswersFor ps (record v { pending = ps }) message w
        → Nexts (answer message) (seen_in (record v { pending = ps })) (seen_in w)
    by_pending [] g f = absurd f
    by_pending (p ∷ ps) g f = confirming v p ps g w message f.0 f.1

pub whole_of : (a : Spool) → Whole (spool_view a)
whole_of a = record { adds = a.adds ∙ a.bytes.ok.0; widths = a.widths }
