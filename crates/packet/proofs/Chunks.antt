-- The chunks of some data, and their sums one after another. Assumes nothing.
use Rattle.std.proofs.Common.{◌≡◌, ℕ, zero, suc, ◌+◌, ◌*◌, ◌/◌, ◌%◌, ◌^◌, ◌<◌, ◌≤◌, min, Bool, true, false, not, cond, eqb, ltb, ◌⊎◌, Option, Some, None, List, [], ◌∷◌, ◌++◌, length, get_or, take, drop, sym, refl, ap, ◌∙◌, subst, ⊎_elim, add-zero, arith}
use Rattle.std.specs.List.{flat_map}
use Rattle.std.specs.Int.{div_ceil}
use Rattle.std.specs.Option.{SomeIff, option_eq}
use Rattle.std.proofs.Math.Nat.{add-div_left, add-mod_left, div-eq_of_lt, mod-eq_of_lt}
use Rattle.std.proofs.lemmas.Nat.{div-add-mod', mul-le, mul-add-lt}
use Rattle.std.proofs.lemmas.List.FromFn.{length-map-range_with_len, get_or-map-range_with_len}
use Rattle.std.proofs.lemmas.List.{append-nil, append_cancel_left, length-append, take_all, nil_from_length, same_lists, take_at, drop_at, drop-drop}
use Rattle.std.proofs.lemmas.Bool.{cond-true, cond-false, eq-eqb, ne_eqb, eqb-true, not-false, lt-ltb, le-ltb, cases_eq, cases_lt}
use Rattle.wire.proofs.Front.{Front, put}
use borrow.Rule.Slice.PartMut.{put_mid}
use Rattle.packet.specs.Sums.{chunk_count, chunk_at, first_chunks, chunks_in, sum_octets, sums_of}

-- ---- how many

pub count_none : (c n : ℕ) → c ≡ 0 → chunk_count c n ≡ 0
unfolding chunk_count
count_none c n e = cond-true (eqb c 0) _ _ (eq-eqb c 0 e)

count_some : (c n : ℕ) → (c ≡ 0 → ⊥) → chunk_count c n ≡ n / c + cond (eqb (n % c) 0) 0 1
unfolding chunk_count
count_some c n ne = cond-false (eqb c 0) _ _ (ne_eqb c 0 ne)

count_whole : (c n : ℕ) → (c ≡ 0 → ⊥) → n % c ≡ 0 → n / c ≡ chunk_count c n
count_whole c n ne e =
    sym (count_some c n ne ∙ ap (λ x. n / c + x) (cond-true (eqb (n % c) 0) 0 1 (eq-eqb (n % c) 0 e)) ∙ add-zero (n / c))

count_rest : (c n : ℕ) → (c ≡ 0 → ⊥) → (n % c ≡ 0 → ⊥) → n / c + 1 ≡ chunk_count c n
count_rest c n ne r = sym (count_some c n ne ∙ ap (λ x. n / c + x) (cond-false (eqb (n % c) 0) 0 1 (ne_eqb (n % c) 0 r)))

-- as `div_ceil` gives it
pub count_is : (c n : ℕ) → (c ≡ 0 → ⊥) → div_ceil n c ≡ chunk_count c n
count_is c n ne =
    ⊎_elim
    (λ e. let k = count_whole c n ne e in omega arith)
    (λ r. let k = count_rest c n ne r in omega arith)
    (cases_eq (n % c) 0)

-- each chunk begins within the data
pub begins_within : (c n k : ℕ) → k < chunk_count c n → k * c < n
begins_within c n k lt =
    ⊎_elim
    (λ z. absurd (let e = count_none c n z in omega arith))
    (λ ne.
    ⊎_elim
    (λ whole. let e = count_whole c n ne whole in omega (arith, mul-add-lt k c 0 (n / c) (omega arith) (omega arith), div-add-mod' n c))
    (λ rest. let e = count_rest c n ne rest in omega (arith, mul-le k c (n / c) c (omega arith) (omega arith), div-add-mod' n c))
    (cases_eq (n % c) 0))
    (cases_eq c 0)

count_empty : (c : ℕ) → chunk_count c 0 ≡ 0
count_empty c = go (chunk_count c 0) refl
  where
    go : (m : ℕ) → chunk_count c 0 ≡ m → m ≡ 0
    go zero e = refl
    go (suc m) e = absurd (let h = begins_within c 0 0 (omega arith) in omega arith)

pub none_to_sum : {Q : Type 0} (c n : ℕ) → ((n ≡ 0) ⊎ (Q × (c ≡ 0))) → chunk_count c n ≡ 0
none_to_sum c n = ⊎_elim (λ e. ap (chunk_count c) e ∙ count_empty c) (λ e. count_none c n e.1)

count_more : (c n : ℕ) → 0 < c → chunk_count c (c + n) ≡ suc (chunk_count c n)
count_more c n h =
    let ne : c ≡ 0 → ⊥ = λ e. omega arith in
    count_some c (c + n) ne
    ∙ (λ i. add-div_left n h i + cond (eqb (add-mod_left c n i) 0) 0 1)
    ∙ omega (arith, count_some c n ne)

count_last : (c n : ℕ) → 0 < n → n ≤ c → chunk_count c n ≡ 1
count_last c n h le =
    ⊎_elim
    (λ lt. sym (count_rest c n (λ e. omega arith) (λ e. omega (arith, mod-eq_of_lt lt))) ∙ omega (arith, div-eq_of_lt lt))
    (λ ge. let e : n ≡ c + 0 = omega arith in ap (chunk_count c) e ∙ count_more c 0 (omega arith) ∙ ap suc (count_empty c))
    (cases_lt n c)

-- ---- the sums, chunk after chunk

pub sum_long : (chunk : List ℕ) → length (sum_octets chunk) ≡ 4
unfolding sum_octets
sum_long chunk = refl

sums_long : (chunks : List (List ℕ)) → length (flat_map sum_octets chunks) ≡ 4 * length chunks
sums_long [] = refl
sums_long (x ∷ xs) = length-append (sum_octets x) (flat_map sum_octets xs) ∙ omega (arith, sum_long x, sums_long xs)

pub sums_of_long : (c : ℕ) (bytes : List ℕ) → length (sums_of c bytes) ≡ 4 * chunk_count c (length bytes)
unfolding sums_of
sums_of_long c bytes = sums_long (chunks_in c bytes) ∙ ap (λ m. 4 * m) (length-map-range_with_len (chunk_at c bytes) 0 (chunk_count c (length bytes)))

-- where there is no data, or the chunk size is 0
pub no_sums : (c : ℕ) (bytes : List ℕ) → chunk_count c (length bytes) ≡ 0 → sums_of c bytes ≡ []
no_sums c bytes e = nil_from_length (sums_of c bytes) (omega (arith, sums_of_long c bytes))

pub none_to_sum_in : {Q : Type 0} (c : ℕ) (bytes : List ℕ) (r : Bool) → r ≡ eqb (length bytes) 0 → ((r ≡ true) ⊎ (Q × (c ≡ 0))) → sums_of c bytes ≡ []
none_to_sum_in c bytes r is =
    ⊎_elim
    (λ e. no_sums c bytes (ap (chunk_count c) (eqb-true (length bytes) 0 (sym is ∙ e)) ∙ count_empty c))
    (λ e. no_sums c bytes (count_none c (length bytes) e.1))

pub nothing_to_sum : (c : ℕ) → sums_of c [] ≡ []
nothing_to_sum c = no_sums c [] (count_empty c)

chunks_more : (c : ℕ) (x rest : List ℕ) → 0 < c → length x ≡ c → chunks_in c (x ++ rest) ≡ x ∷ chunks_in c rest
chunks_more c x rest h e =
    let all = length-append x rest ∙ ap (λ n. n + length rest) e in
    let n = ap (chunk_count c) all ∙ count_more c (length rest) h in
    let long = length-map-range_with_len (chunk_at c (x ++ rest)) 0 (chunk_count c (length (x ++ rest))) in
    same_lists (chunks_in c (x ++ rest)) (x ∷ chunks_in c rest)
    (long ∙ n ∙ ap suc (sym (length-map-range_with_len (chunk_at c rest) 0 (chunk_count c (length rest)))))
    (λ k d lt. at k d (omega (arith, long)) (omega (arith, long, n)))
  where
    at : (k : ℕ) (d : List ℕ) → k < chunk_count c (length (x ++ rest)) → k < suc (chunk_count c (length rest)) → get_or (chunks_in c (x ++ rest)) k d ≡ get_or (x ∷ chunks_in c rest) k d
    at zero d lt less =
        let z : 0 * c ≡ 0 = omega arith in
        get_or-map-range_with_len (chunk_at c (x ++ rest)) 0 (chunk_count c (length (x ++ rest))) 0 0 d lt refl
        ∙ ap (λ m. take c (drop m (x ++ rest))) z
        ∙ take_at x rest c e
    at (suc k) d lt less =
        let m : suc k * c ≡ c + k * c = omega arith in
        get_or-map-range_with_len (chunk_at c (x ++ rest)) 0 (chunk_count c (length (x ++ rest))) (suc k) (suc k) d lt (omega arith)
        ∙ ap (λ m. take c (drop m (x ++ rest))) m
        ∙ ap (take c) (sym (drop-drop (k * c) c (x ++ rest)) ∙ ap (drop (k * c)) (drop_at x rest c e))
        ∙ sym (get_or-map-range_with_len (chunk_at c rest) 0 (chunk_count c (length rest)) k k d (omega arith) (omega arith))

chunks_last : (c : ℕ) (x : List ℕ) → 0 < length x → length x ≤ c → chunks_in c x ≡ x ∷ []
chunks_last c x h le =
    let z : 0 * c ≡ 0 = omega arith in
    ap (first_chunks c x) (count_last c (length x) h le)
    ∙ ap (λ y. y ∷ []) (ap (λ m. take c (drop m x)) z ∙ take_all c x le)

-- the first chunk's sum, and those of the rest
pub sums_more : (c : ℕ) (all x rest : List ℕ) → 0 < c → all ≡ x ++ rest → length x ≡ min c (length all) → 0 < length all → sums_of c all ≡ sum_octets x ++ sums_of c rest
unfolding sums_of
sums_more c all x rest h e long some =
    ap (sums_of c) e
    ∙ ⊎_elim
    (λ none.
    let nil = nil_from_length rest none in
    let whole = ap (λ r. x ++ r) nil ∙ append-nil x in
    let n : length x ≡ length all = sym (ap length (e ∙ whole)) in
    ap (sums_of c) whole
    ∙ ap (flat_map sum_octets) (chunks_last c x (omega arith) (omega arith))
    ∙ ap (λ s. sum_octets x ++ s) (sym (ap (sums_of c) nil ∙ nothing_to_sum c)))
    (λ more. ap (flat_map sum_octets) (chunks_more c x rest h (omega (arith, ap length e, length-append x rest))))
    (cases_eq (length rest) 0)

-- the next sum is written behind those that stand at the front
pub put_sum : {xs p zs : List ℕ} (a n m k : ℕ) (chunk ys : List ℕ) → Front xs (4 * a) p zs → n ≡ a → m ≡ a + 1 → k ≡ 4 → ys ≡ sum_octets chunk → 4 * n + 4 ≤ length xs → Front xs (4 * m) (p ++ sum_octets chunk) (put_mid (4 * n) k zs ys)
put_sum {xs} {p} {zs} a n m k chunk ys f en em ek e h =
    let N : ℕ → Type 0 = λ i. Front xs (4 * m) (p ++ sum_octets chunk) (put_mid (4 * i) k zs ys) in
    let P : List ℕ → Type 0 = λ y. Front xs (4 * m) (p ++ y) (put_mid (4 * a) k zs ys) in
    subst N (sym en) (subst P e (put f k (4 * m) ys (ap length e ∙ sum_long chunk ∙ sym ek) (omega arith) (omega arith)))

-- ---- sums beside data, both read from their fronts on

-- what is left of both decides whether the whole sums are right
pub record Left (c : ℕ) (sums bytes rest_sums rest : List ℕ) : Type 0 where
  pub long : length rest_sums ≡ length (sums_of c rest)
  pub down : sums ≡ sums_of c bytes → rest_sums ≡ sums_of c rest
  pub up : rest_sums ≡ sums_of c rest → sums ≡ sums_of c bytes

module _ {c : ℕ} {sums bytes rest_sums rest : List ℕ} (l : Left c sums bytes rest_sums rest) (s x s' rest' : List ℕ)
    (h : 0 < c) (es : rest_sums ≡ s ++ s') (ks : length s ≡ 4) (e : rest ≡ x ++ rest') (k : length x ≡ min c (length rest)) (some : 0 < length rest) where
  step : sums_of c rest ≡ sum_octets x ++ sums_of c rest'
  step = sums_more c rest x rest' h e k some

  -- the next sum is right
  pub left_more : s ≡ sum_octets x → Left c sums bytes s' rest'
  left_more is = record {
    long = omega (arith, l.long, ap length es, length-append s s', ap length step, length-append (sum_octets x) (sums_of c rest'), sum_long x);
    down = λ w. append_cancel_left (sum_octets x) s' (sums_of c rest') (ap (λ y. y ++ s') (sym is) ∙ sym es ∙ l.down w ∙ step);
    up = λ w. l.up (es ∙ (λ i. is i ++ w i) ∙ sym step);
  }

  -- it is not
  pub left_other : (s ≡ sum_octets x → ⊥) → sums ≡ sums_of c bytes → ⊥
  left_other n w =
      let both = sym es ∙ l.down w ∙ step in
      n (sym (take_at s s' 4 ks) ∙ ap (take 4) both ∙ take_at (sum_octets x) (sums_of c rest') 4 (sum_long x))

-- nothing is read yet
pub left_all : (c : ℕ) (sums bytes rest_sums rest : List ℕ) → rest_sums ≡ sums → rest ≡ bytes → length sums ≡ 4 * chunk_count c (length bytes) → Left c sums bytes rest_sums rest
left_all c sums bytes rest_sums rest es e long = record {
  long = ap length es ∙ long ∙ sym (sums_of_long c bytes) ∙ ap (λ b. length (sums_of c b)) (sym e);
  down = λ w. es ∙ w ∙ ap (sums_of c) (sym e);
  up = λ w. sym es ∙ w ∙ ap (sums_of c) e;
}

-- nothing more to read
pub left_none : {c : ℕ} {sums bytes rest_sums rest : List ℕ} → Left c sums bytes rest_sums rest → (length rest ≡ 0) ⊎ (length rest_sums < 4) → sums ≡ sums_of c bytes
left_none {c} {sums} {bytes} {rest_sums} {rest} l =
    ⊎_elim
    (λ e. let z = ap (sums_of c) (nil_from_length rest e) ∙ nothing_to_sum c in l.up (nil_from_length rest_sums (l.long ∙ ap length z) ∙ sym z))
    (λ lt. let z : chunk_count c (length rest) ≡ 0 = omega (arith, l.long, sums_of_long c rest) in let n = no_sums c rest z in l.up (nil_from_length rest_sums (l.long ∙ ap length n) ∙ sym n))

-- ---- what `checked_mul` and `!=` answer

pub some_if : (r : Option ℕ) (n m most : ℕ) → n ≡ m → SomeIff r (n < most) n → r ≡ cond (ltb m most) (Some m) None
some_if None n m most e h = sym (cond-false (ltb m most) (Some m) None (le-ltb m most (⊎_elim (λ lt. absurd (h (omega arith))) (λ ge. ge) (cases_lt m most))))
some_if (Some k) n m most e h = ap Some (h.1 ∙ e) ∙ sym (cond-true (ltb m most) (Some m) None (lt-ltb m most (omega (arith, h.0))))

module _ (m n : ℕ) (r : Option ℕ) (b : Bool) (is : r ≡ cond (ltb m (2 ^ 64)) (Some m) None) (ne : b ≡ not (option_eq eqb r (Some n))) where
  -- what `!=` of a length that fits and `Some` answers
  told : n < 2 ^ 64 → n ≡ m → b ≡ false
  told h e = ne ∙ (λ i. not (option_eq eqb ((is ∙ cond-true (ltb m (2 ^ 64)) (Some m) None (lt-ltb m (2 ^ 64) (omega arith))) i) (Some n))) ∙ ap not (eq-eqb m n (sym e))

  pub other_length : b ≡ true → n < 2 ^ 64 → n ≡ m → ⊥
  other_length t h e = let f = told h e in cc

  pub same_length : b ≡ false → n ≡ m
  same_length f =
      ⊎_elim
      (λ lt. let s = is ∙ cond-true (ltb m (2 ^ 64)) (Some m) None (lt-ltb m (2 ^ 64) lt) in
      sym (eqb-true m n (not-false (eqb m n) (ap (λ o. not (option_eq eqb o (Some n))) (sym s) ∙ sym ne ∙ f))))
      (λ ge. let s = is ∙ cond-false (ltb m (2 ^ 64)) (Some m) None (le-ltb m (2 ^ 64) ge) in
      let t = ne ∙ ap (λ o. not (option_eq eqb o (Some n))) s in absurd (let z : true ≡ false = sym t ∙ f in cc))
      (cases_lt m (2 ^ 64))
