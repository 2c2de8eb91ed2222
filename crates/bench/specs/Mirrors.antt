-- Replicas that are the same as the first one stay the same. Assumes nothing.
use Rattle.std.specs.Prelude.{◌≡◌, ℕ, zero, suc, ◌-◌, ◌^◌, ◌<◌, Bool, true, false, cond, List, [], ◌∷◌, ◌++◌, map, length, take, replicate, Some, None, vec_items, Option, ◌==◌, slice_index_or, refl}
use Rattle.std.proofs.Common.{sym, ap, ◌∙◌, arith}
use Rattle.std.proofs.lemmas.Slice.Eq.{bytes_eq-Decides}
use Rattle.std.proofs.lemmas.Bool.{and_from, and_parts, false≢true}
use Rattle.std.specs.Str.{bytes_eq}
use Rattle.packet.specs.Frame.{Packet}
use Rattle.packet.specs.Reading.{Reads}
use Rattle.packet.proofs.Reading.{unique}
use Rattle.request.specs.declared.setup.Setup.{Setup}
use Rattle.chain.specs.Meaning as meaning
use Rattle.spool.specs.Calls.{SetsFor, Puts}
use Rattle.spool.specs.Spools.{SpoolView, seen_in, takes, with_pending}
use Rattle.bench.specs.Replicas.{Bytes, copies, mirrored}

same_refl : (bs : List ℕ) → bytes_eq bs bs ≡ true
same_refl bs = (bytes_eq-Decides bs bs).1 refl

pub mirrored_new : (n : ℕ) (bs : List ℕ) → mirrored bs (replicate n bs) ≡ true
mirrored_new zero bs = refl
mirrored_new (suc n) bs = and_from _ _ (same_refl bs) (mirrored_new n bs)

pub mirrored_more : (bs d : List ℕ) (cs : List (List ℕ)) → mirrored bs cs ≡ true → mirrored (bs ++ d) (map (λ b. b ++ d) cs) ≡ true
mirrored_more bs d [] e = refl
mirrored_more bs d (c ∷ cs) e =
    let p = and_parts (bytes_eq c bs) (mirrored bs cs) e in
    let q = (bytes_eq-Decides c bs).0 p.0 in
    and_from _ _ (ap (λ z. bytes_eq (z ++ d) (bs ++ d)) q ∙ same_refl (bs ++ d)) (mirrored_more bs d cs p.1)

-- what a set up leaves of the first node's bytes
pub set_bytes : (o : Option Setup) (q : Setup) (v : SpoolView) (least : ℕ) (w : SpoolView) → Some q ≡ o → SetsFor o v least w → w.bytes ≡ take least v.bytes
set_bytes None q v least w e f = absurd f
set_bytes (Some r) q v least w e f = ap (λ (z : SpoolView). z.bytes) f.1

-- what a put leaves of them
put_on : (v w : SpoolView) (p : Packet) (beat fit : Bool) → true ≡ cond beat true fit → w ≡ cond beat v (cond fit (with_pending v p) v) → w.bytes ≡ cond beat v.bytes (v.bytes ++ p.bytes)
put_on v w p true fit t e = ap (λ (z : SpoolView). z.bytes) e
put_on v w p false true t e = ap (λ (z : SpoolView). z.bytes) e
put_on v w p false false t e = absurd (false≢true (sym t))

pub put_bytes : (v w : SpoolView) (frame : List ℕ) (p : Packet) → Reads frame (Some p) → Puts v frame true w → w.bytes ≡ cond (p.seqno == 2 ^ 64 - 1) v.bytes (v.bytes ++ p.bytes)
put_bytes v w frame p r (None, (r', t, e)) = absurd (false≢true (sym t))
put_bytes v w frame p r (Some p', (r', t, e)) =
    let same = unique p' p r'.0 r.0 (r'.1 ∙ sym r.1) in
    put_on v w p' (p'.seqno == 2 ^ 64 - 1) (takes v p') t e
    ∙ ap (λ (z : Packet). cond (z.seqno == 2 ^ 64 - 1) v.bytes (v.bytes ++ z.bytes)) same

pub lost_put : (v w : SpoolView) (frame : List ℕ) (taken : Bool) → taken ≡ false → w ≡ v → meaning.Puts frame taken (seen_in v) (seen_in w)
lost_put v w frame true t e = absurd (false≢true (sym t))
lost_put v w frame false t e = ap seen_in e

pub mirrored_at : (bs : List ℕ) (vs : List Bytes) (i : ℕ) (x : Bytes) → mirrored bs (copies vs) ≡ true → i < length vs → x ≡ slice_index_or vs i x → vec_items x ≡ bs
mirrored_at bs [] i x m h e = absurd (omega arith)
mirrored_at bs (v ∷ vs) zero x m h e = ap vec_items e ∙ (bytes_eq-Decides (vec_items v) bs).0 (and_parts (bytes_eq (vec_items v) bs) (mirrored bs (copies vs)) m).0
mirrored_at bs (v ∷ vs) (suc i) x m h e = mirrored_at bs vs i x (and_parts (bytes_eq (vec_items v) bs) (mirrored bs (copies vs)) m).1 (omega arith) e
