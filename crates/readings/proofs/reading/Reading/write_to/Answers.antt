use Rattle.std.proofs.Common.{◌≡◌, ◌^◌, length, ap, ◌∙◌, arith}
use Rattle.readings.specs.Record.{reading_of}
use Rattle.readings.proofs.Back.{Fitting, back, parts}
use Rattle.readings.proofs.Big.{big_8, bigs_mapped, below_mapped}
use Rattle.readings.proofs.reading.Reading.write_to.Goals as goal

pub returns : goal.returns
returns c =
    let r = c.args.self.now in
    let four : length r.weights ≡ 4 = omega arith in
    let six : length r.burners ≡ 6 = omega arith in
    let eight : length r.crowns ≡ 8 = omega arith in
    let f : Fitting r = record {
      four = four;
      six = six;
      eight = eight;
      time = omega arith;
      weights = below_mapped _ _ 4 (2 ^ 32) 4 r.weights c.map.result four c.map.ensures.items (λ p q x y h. h.met);
      burners = below_mapped _ _ 2 (2 ^ 16) 6 r.burners c.map-2.result six c.map-2.ensures.items (λ p q x y h. h.met);
      crowns = below_mapped _ _ 2 (2 ^ 16) 8 r.crowns c.map-3.result eight c.map-3.ensures.items (λ p q x y h. h.met);
    } in
    let e =
    parts r c.args.out.now _ _ _ _ c.told-out f
    (c.copy_from_slice.ensures.after ∙ c.to_be_bytes.ensures ∙ big_8 r.time)
    (c.copy_from_slice-2.ensures.after ∙ c.as_flattened.ensures.value ∙ bigs_mapped _ _ 4 (2 ^ 32) 4 r.weights c.map.result four c.map.ensures.items (λ p q x y h. h.met))
    (c.copy_from_slice-3.ensures.after ∙ c.as_flattened-2.ensures.value ∙ bigs_mapped _ _ 2 (2 ^ 16) 6 r.burners c.map-2.result six c.map-2.ensures.items (λ p q x y h. h.met))
    (c.copy_from_slice-4.ensures.after ∙ c.as_flattened-3.ensures.value ∙ bigs_mapped _ _ 2 (2 ^ 16) 8 r.crowns c.map-3.result eight c.map-3.ensures.items (λ p q x y h. h.met)) in
    record { written = e; back = ap reading_of e ∙ back r f }
