-- A request written to a buffer's front and sent, and what came judged. Assumes nothing.
use Rattle.std.proofs.Common.{◌≡◌, ℕ, ◌-◌, ◌≤◌, List, [], ◌∷◌, ◌++◌, length, get_or, take, drop, Some, None, Ok, Err, Option, Result, sym, ap, ◌∙◌, subst, arith}
use Rattle.std.proofs.lemmas.List.{take_at, take_rest}
use Rattle.request.specs.Requests.{sent}
use Rattle.chain.specs.Acts.{Replied}
use Rattle.pipeline.specs.Replies.{Reply, reply_of, front_of, Asked}

-- the first of a list, and the rest of it
pub first_rest : {X : Type 0} (xs : List X) (x : X) → 1 ≤ length xs → x ≡ get_or xs 0 x → x ∷ take (length xs - 1) (drop 1 xs) ≡ xs
first_rest [] x h e = absurd (omega arith)
first_rest (y ∷ xs) x h e = λ k. e k ∷ take_rest (y ∷ xs) 1 k

-- where a request ends, and that it stands at the front
module _ (octets before after : List ℕ) (n : ℕ) (s : sent octets before after (Some n)) where
  pub stands : (k : ℕ) → k ≡ n → take k after ≡ octets
  stands k h = ap (take k) s.2 ∙ take_at octets (drop n before) k (sym (h ∙ s.0))

  pub long : length octets ≤ length before
  long = omega (arith, s.0, s.1)

  pub whole : after ≡ octets ++ drop (length octets) before
  whole = s.2 ∙ ap (λ m. octets ++ drop m before) s.0

-- what was judged is what stands at the buffer's front
pub asked : {E : Type 0} (act : Option (List ℕ) → Type 0) (before after : List ℕ) (came : Result ℕ E) (r : Reply)
    → Replied act before after came → r ≡ reply_of (front_of came after) → Asked act before after r
asked act before after (Err x) r d e = record { came = None; acted = d.1; fits = omega arith; buffer = d.0; is = e }
asked act before after (Ok n) r d e =
    let m = d.0 in
    let f = d.1.0 in
    record {
      came = Some m;
      acted = d.1.1;
      fits = omega (arith, f.long, f.fits);
      buffer = f.is ∙ ap (λ k. m ++ drop k before) (sym f.long);
      is = e ∙ ap (λ (z : List ℕ). reply_of (Some z)) (ap (take n) f.is ∙ take_at m (drop n before) n f.long);
    }

-- the octets that were sent are those of the request
pub asked_with : {E : Type 0} (act : List ℕ → Option (List ℕ) → Type 0) (octets given before after : List ℕ) (came : Result ℕ E) (r : Reply)
    → given ≡ octets → Replied (act given) before after came → r ≡ reply_of (front_of came after) → Asked (act octets) before after r
asked_with act octets given before after came r h d e = subst (λ (z : List ℕ). Asked (act z) before after r) h (asked (act given) before after came r d e)
