use Rattle.std.proofs.Common.{◌≡◌, take, drop, length, Some, ◌+◌, ◌*◌, sym, ap, refl, ◌∙◌, arith, rules, w16, w32}
use Rattle.std.specs.Int.{from_be_bytes}
use Rattle.std.specs.Int.Digits.{number_from_digits}
use Rattle.std.proofs.lemmas.List.{length-take-le, length-drop}
use Rattle.std.proofs.lemmas.Bool.{cond-true, cond-false, eq-eqb, ne_eqb}
use Rattle.readings.specs.Record.{big_at, bigs_at}
use Rattle.readings.proofs.Big.{number_2, number_4, number_8, bigs_read, from_fn_gives}
use Rattle.readings.proofs.reading.Reading.from_record.Goals as goal

pub returns-in_err-octets : goal.returns-in_err-octets
returns-in_err-octets c =
    c.from_residual.ensures ∙ sym (cond-false _ _ _ (ne_eqb (length c.args.bytes.now) 52 c.in_err-octets.ensures.cases))

pub returns : goal.returns
unfolding big_at
returns c =
    let octets = c.in_ok-octets.octets.now in
    let whole = c.in_ok-octets.ensures.cases in
    let long : length octets ≡ 52 = ap length whole.same ∙ whole.long in
    let time : c.from_be_bytes.result ≡ big_at 8 0 octets = c.from_be_bytes.ensures ∙ number_8 c.array_at.result.now (ap length c.array_at.ensures ∙ length-take-le 8 octets (omega arith)) ∙ ap (number_from_digits 256) c.array_at.ensures in
    let weights = bigs_read 4 4 8 octets c.from_fn.result c.from_fn.ensures.items.long (from_fn_gives _ (λ p. p.0.now ≡ octets) 4 (λ i. big_at 4 (8 + 4 * i) octets)
    (λ p q i y l a r.
    let h : y ≡ from_be_bytes w32 (take 4 (drop (8 + 4 * i) p.0.now)) = search rules in
    let same : length p.0.now ≡ 52 = ap length a ∙ long in
    (h ∙ number_4 (take 4 (drop (8 + 4 * i) p.0.now)) (length-take-le 4 (drop (8 + 4 * i) p.0.now) (omega (arith, length-drop (8 + 4 * i) p.0.now))) ∙ ap (λ z. number_from_digits 256 (take 4 (drop (8 + 4 * i) z))) a, search rules)) _ c.from_fn.result refl c.from_fn.ensures.items) in
    let burners = bigs_read 2 6 24 octets c.from_fn-2.result c.from_fn-2.ensures.items.long (from_fn_gives _ (λ p. p.0.now ≡ octets) 6 (λ i. big_at 2 (24 + 2 * i) octets)
    (λ p q i y l a r.
    let h : y ≡ from_be_bytes w16 (take 2 (drop (24 + 2 * i) p.0.now)) = search rules in
    let same : length p.0.now ≡ 52 = ap length a ∙ long in
    (h ∙ number_2 (take 2 (drop (24 + 2 * i) p.0.now)) (length-take-le 2 (drop (24 + 2 * i) p.0.now) (omega (arith, length-drop (24 + 2 * i) p.0.now))) ∙ ap (λ z. number_from_digits 256 (take 2 (drop (24 + 2 * i) z))) a, search rules)) _ c.from_fn-2.result refl c.from_fn-2.ensures.items) in
    let crowns = bigs_read 2 8 36 octets c.from_fn-3.result c.from_fn-3.ensures.items.long (from_fn_gives _ (λ p. p.0.now ≡ octets) 8 (λ i. big_at 2 (36 + 2 * i) octets)
    (λ p q i y l a r.
    let h : y ≡ from_be_bytes w16 (take 2 (drop (36 + 2 * i) p.0.now)) = search rules in
    let same : length p.0.now ≡ 52 = ap length a ∙ long in
    (h ∙ number_2 (take 2 (drop (36 + 2 * i) p.0.now)) (length-take-le 2 (drop (36 + 2 * i) p.0.now) (omega (arith, length-drop (36 + 2 * i) p.0.now))) ∙ ap (λ z. number_from_digits 256 (take 2 (drop (36 + 2 * i) z))) a, search rules)) _ c.from_fn-3.result refl c.from_fn-3.ensures.items) in
    let to = whole.same in
    (λ i. Some (record { time = (time ∙ ap (big_at 8 0) to) i; weights = (weights ∙ ap (bigs_at 4 4 8) to) i; burners = (burners ∙ ap (bigs_at 2 6 24) to) i; crowns = (crowns ∙ ap (bigs_at 2 8 36) to) i }))
    ∙ sym (cond-true _ _ _ (eq-eqb (length c.args.bytes.now) 52 whole.long))
