-- Pending packets over their bytes: one more at the end, and the first one gone. Assumes nothing.
use Rattle.std.specs.Prelude.{◌≡◌, ℕ, ◌+◌, ◌^◌, ◌<◌, ◌≤◌, true, List, [], ◌∷◌, ◌++◌, length, take, drop, refl}
use Rattle.std.proofs.Common.{ap, ◌∙◌, arith}
use Rattle.std.proofs.lemmas.List.{length-drop, take_all, take-append-le, drop-append-le}
use Rattle.std.proofs.lemmas.Bool.{lt-ltb, and_from, and_parts}
use Rattle.packet.specs.Sums.{sums_of}
use Rattle.spool.specs.declared.pending.Pending.{Pending}
use Rattle.spool.specs.Counts.{total, numbered}
use Rattle.spool.specs.Spools.{packets_from}

pub total_push : (ps : List Pending) (p : Pending) → total (ps ++ p ∷ []) ≡ total ps + p.len
total_push [] p = omega arith
total_push (q ∷ ps) p = omega (arith, total_push ps p)

pub numbered_push : (ps : List Pending) (p : Pending) → numbered ps ≡ true → p.seqno < 2 ^ 64 → numbered (ps ++ p ∷ []) ≡ true
numbered_push [] p n h = and_from _ _ (lt-ltb _ _ h) refl
numbered_push (q ∷ ps) p n h = let b = and_parts _ _ n in and_from _ _ b.0 (numbered_push ps p b.1 h)

none_there : (bs more : List ℕ) → 0 ≡ length bs → bs ++ more ≡ more
none_there [] more e = refl
none_there (b ∷ bs) more e = absurd (omega arith)

-- a packet more behind those that have all of bs
pub packets_push : (c at : ℕ) (ps : List Pending) (p : Pending) (bs more : List ℕ) → total ps ≡ length bs → p.len ≡ length more
    → packets_from c at (ps ++ p ∷ []) (bs ++ more)
    ≡ packets_from c at ps bs ++ record { offset = at + length bs; seqno = p.seqno; last = p.last; sums = sums_of c more; bytes = more } ∷ []
packets_push c at [] p bs more e l =
    let n = none_there bs more e in
    let whole : take p.len (bs ++ more) ≡ more = ap (take p.len) n ∙ take_all p.len more (omega (arith, l)) in
    let here : at ≡ at + length bs = omega (arith, e) in
    (λ i. record { offset = here i; seqno = p.seqno; last = p.last; sums = sums_of c (whole i); bytes = whole i } ∷ [])
packets_push c at (q ∷ ps) p bs more e l =
    let fits : q.len ≤ length bs = omega (arith, e) in
    let left : total ps ≡ length (drop q.len bs) = omega (arith, e, length-drop q.len bs) in
    let front = take-append-le q.len bs more fits in
    let back = drop-append-le q.len bs more fits in
    let end : at + q.len + length (drop q.len bs) ≡ at + length bs = omega (arith, length-drop q.len bs) in
    (λ i. record { offset = at; seqno = q.seqno; last = q.last; sums = sums_of c (front i); bytes = front i } ∷ packets_from c (at + q.len) (ps ++ p ∷ []) (back i))
    ∙ ap (λ z. record { offset = at; seqno = q.seqno; last = q.last; sums = sums_of c (take q.len bs); bytes = take q.len bs } ∷ z)
    (packets_push c (at + q.len) ps p (drop q.len bs) more left l
    ∙ ap (λ z. packets_from c (at + q.len) ps (drop q.len bs) ++ record { offset = z; seqno = p.seqno; last = p.last; sums = sums_of c more; bytes = more } ∷ []) end)
