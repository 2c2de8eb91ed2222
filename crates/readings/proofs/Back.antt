-- A reading is read back from its octets. Assumes nothing.
use Rattle.std.proofs.Common.{◌≡◌, ℕ, ◌^◌, ◌<◌, List, [], ◌++◌, length, Some, sym, refl, ap, ◌∙◌, arith}
use Rattle.std.specs.Int.Digits.{number_from_digits}
use Rattle.std.proofs.lemmas.List.{append_assoc, append-nil, length-append, take_at}
use Rattle.std.proofs.lemmas.Bool.{cond-true, eq-eqb}
use borrow.Rule.Slice.PartMut.{put_mid}
use Rattle.wire.specs.Octets.{big}
use Rattle.wire.proofs.Front.{start, put, done}
use Rattle.readings.specs.declared.reading.Reading.{Reading}
use Rattle.readings.specs.Record.{bigs, big_at, bigs_at, octets_of, reading_of}
use Rattle.readings.proofs.Big.{Below, bigs_back, length_big, length_bigs, number_big}

-- what the types of its fields say of a reading
pub record Fitting (r : Reading) : Type 0 where
  pub four : length r.weights ≡ 4
  pub six : length r.burners ≡ 6
  pub eight : length r.crowns ≡ 8
  pub time : r.time < 2 ^ 64
  pub weights : Below (2 ^ 32) r.weights
  pub burners : Below (2 ^ 16) r.burners
  pub crowns : Below (2 ^ 16) r.crowns

pub back : (r : Reading) → Fitting r → reading_of (octets_of r) ≡ Some r
unfolding octets_of big_at
back r f =
    let t = big 8 r.time in
    let w = bigs 4 r.weights in
    let b = bigs 2 r.burners in
    let d = bigs 2 r.crowns in
    let lt = length_big 8 r.time in
    let lw = length_bigs 4 r.weights in
    let lb = length_bigs 2 r.burners in
    let ld = length_bigs 2 r.crowns in
    let ltw : length (t ++ w) ≡ 24 = length-append t w ∙ omega (arith, lt, lw, f.four) in
    let ltwb : length ((t ++ w) ++ b) ≡ 36 = length-append (t ++ w) b ∙ omega (arith, ltw, lb, f.six) in
    let e1 : t ++ (w ++ (b ++ d)) ≡ (t ++ w) ++ (b ++ d) = sym (append_assoc t w (b ++ d)) in
    let e2 : t ++ (w ++ (b ++ d)) ≡ ((t ++ w) ++ b) ++ (d ++ []) = e1 ∙ sym (append_assoc (t ++ w) b d) ∙ ap (λ z. ((t ++ w) ++ b) ++ z) (sym (append-nil d)) in
    let all : length (t ++ (w ++ (b ++ d))) ≡ 52 = ap length (e1 ∙ sym (append_assoc (t ++ w) b d)) ∙ length-append ((t ++ w) ++ b) d ∙ omega (arith, ltwb, ld, f.eight) in
    let time : big_at 8 0 (t ++ (w ++ (b ++ d))) ≡ r.time = ap (number_from_digits 256) (take_at t (w ++ (b ++ d)) 8 lt) ∙ number_big 8 r.time f.time in
    let weights : bigs_at 4 4 8 (t ++ (w ++ (b ++ d))) ≡ r.weights =
    ap (λ k. bigs_at 4 k 8 (t ++ (w ++ (b ++ d)))) (sym f.four) ∙ bigs_back 4 r.weights t (b ++ d) 8 lt f.weights in
    let burners : bigs_at 2 6 24 (t ++ (w ++ (b ++ d))) ≡ r.burners =
    ap (λ k. bigs_at 2 k 24 (t ++ (w ++ (b ++ d)))) (sym f.six) ∙ ap (bigs_at 2 (length r.burners) 24) e1 ∙ bigs_back 2 r.burners (t ++ w) d 24 ltw f.burners in
    let crowns : bigs_at 2 8 36 (t ++ (w ++ (b ++ d))) ≡ r.crowns =
    ap (λ k. bigs_at 2 k 36 (t ++ (w ++ (b ++ d)))) (sym f.eight) ∙ ap (bigs_at 2 (length r.crowns) 36) e2 ∙ bigs_back 2 r.crowns ((t ++ w) ++ b) [] 36 ltwb f.crowns in
    cond-true _ _ _ (eq-eqb _ 52 all)
    ∙ (λ i. Some (record { time = time i; weights = weights i; burners = burners i; crowns = crowns i }))

-- the four parts written one after another into 52 octets
pub parts : (r : Reading) (out t w b d : List ℕ) → length out ≡ 52 → Fitting r
    → t ≡ big 8 r.time → w ≡ bigs 4 r.weights → b ≡ bigs 2 r.burners → d ≡ bigs 2 r.crowns
    → put_mid 36 16 (put_mid 24 12 (put_mid 8 16 (put_mid 0 8 out t) w) b) d ≡ octets_of r
unfolding octets_of
parts r out t w b d l f et ew eb ed =
    let lt : length t ≡ 8 = ap length et ∙ length_big 8 r.time in
    let lw : length w ≡ 16 = ap length ew ∙ length_bigs 4 r.weights ∙ omega (arith, f.four) in
    let lb : length b ≡ 12 = ap length eb ∙ length_bigs 2 r.burners ∙ omega (arith, f.six) in
    let ld : length d ≡ 16 = ap length ed ∙ length_bigs 2 r.crowns ∙ omega (arith, f.eight) in
    let f1 = put (start out) 8 8 t lt refl (omega arith) in
    let f2 = put f1 16 24 w lw refl (omega arith) in
    let f3 = put f2 12 36 b lb refl (omega arith) in
    let f4 = put f3 16 52 d ld refl (omega arith) in
    done f4 l
    ∙ append_assoc (t ++ w) b d ∙ append_assoc t w (b ++ d)
    ∙ (λ i. et i ++ (ew i ++ (eb i ++ ed i)))
