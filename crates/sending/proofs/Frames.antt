-- What `write_frame` answers, read backwards: where the frame ends, and that it stands at the buffer's front. Assumes nothing.
use Rattle.std.proofs.Common.{◌≡◌, ℕ, ◌≤◌, Bool, true, false, cond, List, ◌++◌, length, take, drop, Some, None, sym, refl, ap, ◌∙◌, arith}
use Rattle.std.proofs.lemmas.List.{length-append, take_at}
use Rattle.std.proofs.lemmas.Bool.{cond-true}
use Rattle.packet.specs.Frame.{Packet, octets_of, fits_in, end_in, over}

ended : (b : Bool) (n m : ℕ) → cond b (Some n) None ≡ Some m → (b ≡ true) × (m ≡ n)
ended true n m e = (refl, cc)
ended false n m e = absurd (let z : ◌≡◌ {A = ℕ} 0 1 = cc e in omega arith)

module _ (p : Packet) (buffer : List ℕ) where
  pub found : fits_in p buffer ≡ true → end_in p buffer ≡ Some (length (octets_of p))
  unfolding end_in
  found h = cond-true (fits_in p buffer) (Some (length (octets_of p))) None h

  module _ (n : ℕ) (e : Some n ≡ end_in p buffer) where
    pub fit : (fits_in p buffer ≡ true) × (n ≡ length (octets_of p))
    unfolding end_in
    fit = ended (fits_in p buffer) (length (octets_of p)) n (sym e)

    stands : over p buffer ≡ octets_of p ++ drop (length (octets_of p)) buffer
    unfolding over
    stands = cond-true (fits_in p buffer) (octets_of p ++ drop (length (octets_of p)) buffer) buffer fit.0

    module _ (after : List ℕ) (is : after ≡ over p buffer) where
      pub within : n ≤ length after
      within =
          let l = ap length (is ∙ stands) ∙ length-append (octets_of p) (drop (length (octets_of p)) buffer) in
          let f = fit.1 in
          omega (arith, l, f)

      pub front : (k : ℕ) → k ≡ n → take k after ≡ octets_of p
      front k h = ap (take k) (is ∙ stands) ∙ take_at (octets_of p) (drop (length (octets_of p)) buffer) k (sym (h ∙ fit.1))
