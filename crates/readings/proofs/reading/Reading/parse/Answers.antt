use Rattle.std.proofs.Common.{◌≡◌, ℕ, ◌+◌, ◌<◌, get_or, Ok, refl, ap, ◌∙◌, arith, rules}
use Rattle.std.proofs.iter.Serving.{serving}
use Rattle.readings.specs.Line.{parsed, reading_from, table}
use Rattle.wire.specs.Read.{and_then}
use Rattle.readings.proofs.Big.{span_read, from_fn_gives}
use Rattle.readings.proofs.Limits.{read_low, ranged}
use Rattle.readings.proofs.reading.Reading.parse.Goals as goal

pub returns-in_err-values : goal.returns-in_err-values
unfolding parsed
returns-in_err-values c = search rules

pub from_fn-requires : goal.from_fn-requires
from_fn-requires c =
    let low : (k : ℕ) → k < 4 → get_or c.in_ok-values.values (1 + k) 0 < 4294967296 = λ k l.
    ranged 4294967296 1 4 table _ (read_low table 0 c.args.line.now _ c.in_ok-values.ensures) refl (1 + k) (omega arith) (omega arith) in
    grind (serving, low)

pub from_fn-requires-2 : goal.from_fn-requires-2
from_fn-requires-2 c =
    let low : (k : ℕ) → k < 6 → get_or c.in_ok-values.values (5 + k) 0 < 65536 = λ k l.
    ranged 65536 5 6 table _ (read_low table 0 c.args.line.now _ c.in_ok-values.ensures) refl (5 + k) (omega arith) (omega arith) in
    grind (serving, low)

pub from_fn-requires-3 : goal.from_fn-requires-3
from_fn-requires-3 c =
    let low : (k : ℕ) → k < 8 → get_or c.in_ok-values.values (11 + k) 0 < 65536 = λ k l.
    ranged 65536 11 8 table _ (read_low table 0 c.args.line.now _ c.in_ok-values.ensures) refl (11 + k) (omega arith) (omega arith) in
    grind (serving, low)

pub returns : goal.returns
unfolding parsed
returns c =
    let ns = c.in_ok-values.values in
    let weights = span_read 4 1 ns c.from_fn.result c.from_fn.ensures.items.long (from_fn_gives _ (λ p. p.0.now ≡ ns) 4 (λ i. get_or ns (1 + i) 0) (λ p q i y l a r.
    let h : y ≡ get_or p.0.now (1 + i) 0 = search rules in (h ∙ ap (λ z. get_or z (1 + i) 0) a, search rules)) _ c.from_fn.result refl c.from_fn.ensures.items) in
    let burners = span_read 6 5 ns c.from_fn-2.result c.from_fn-2.ensures.items.long (from_fn_gives _ (λ p. p.0.now ≡ ns) 6 (λ i. get_or ns (5 + i) 0) (λ p q i y l a r.
    let h : y ≡ get_or p.0.now (5 + i) 0 = search rules in (h ∙ ap (λ z. get_or z (5 + i) 0) a, search rules)) _ c.from_fn-2.result refl c.from_fn-2.ensures.items) in
    let crowns = span_read 8 11 ns c.from_fn-3.result c.from_fn-3.ensures.items.long (from_fn_gives _ (λ p. p.0.now ≡ ns) 8 (λ i. get_or ns (11 + i) 0) (λ p q i y l a r.
    let h : y ≡ get_or p.0.now (11 + i) 0 = search rules in (h ∙ ap (λ z. get_or z (11 + i) 0) a, search rules)) _ c.from_fn-3.result refl c.from_fn-3.ensures.items) in
    (λ i. Ok (record { time = get_or ns 0 0; weights = weights i; burners = burners i; crowns = crowns i }))
    ∙ ap (λ r. and_then r (λ ns. Ok (reading_from ns))) c.in_ok-values.ensures
