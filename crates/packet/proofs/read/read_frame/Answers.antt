use Rattle.std.proofs.Common.{◌≡◌, ◌+◌, ◌-◌, ◌++◌, Option, length, sym, ap, ◌∙◌, subst, arith, rules}
use Rattle.std.proofs.lemmas.List.{take-append-drop}
use Rattle.std.proofs.lemmas.Slice.Eq.{bytes_eq-Decides}
use Rattle.packet.specs.declared.read.Frame.{Frame}
use Rattle.packet.specs.Reading.{Reads, packet_in, front_of}
use Rattle.packet.proofs.Reading.{least_long, start_within, rest_below, size_within, front_is, taken}
use Rattle.packet.proofs.Same.{differ, agree}
use Rattle.packet.proofs.read.read_frame.Goals as goal

pub returns-then-bytes : goal.returns-then-bytes
returns-then-bytes c = λ p k e. omega (arith, least_long p c.args.bytes.now k e)

pub returns-in_err-front : goal.returns-in_err-front
returns-in_err-front c =
    let R : Option Frame → Type 0 = λ r. Reads c.args.bytes.now (packet_in r) in
    subst R (sym c.from_residual.ensures) (λ p k e.
    omega (arith, c.in_err-front.ensures.cases, start_within c.args.bytes.now c.header_at-header.result c.header_at-header.ensures c.header_len-start.result c.header_len-start.ensures.value p k e))

pub returns-then-rest : goal.returns-then-rest
returns-then-rest c = λ p k e.
    let s = c.in_ok-front.ensures.cases in
    omega (arith, s.4, rest_below c.args.bytes.now c.header_at-header.result c.header_at-header.ensures c.header_len-start.result c.header_len-start.ensures.value p k e)

pub returns-in_err-sums_len : goal.returns-in_err-sums_len
returns-in_err-sums_len c =
    let R : Option Frame → Type 0 = λ r. Reads c.args.bytes.now (packet_in r) in
    let s = c.in_ok-front.ensures.cases in
    subst R (sym c.from_residual-in_err-sums_len.ensures) (λ p k e.
    c.in_err-sums_len.ensures (omega (arith, s.4, size_within c.args.bytes.now c.header_at-header.result c.header_at-header.ensures c.header_len-start.result c.header_len-start.ensures.value p k e)))

pub returns-then-ne : goal.returns-then-ne
returns-then-ne c = λ p k e.
    let s = c.in_ok-front.ensures.cases in
    let n = c.header_len-start.result in
    let m : length c.args.bytes.now - (6 + n) ≡ length c.in_ok-front.rest.now = omega (arith, s.4) in
    let front = front_is c.args.bytes.now c.header_at-header.result c.header_at-header.ensures n c.header_len-start.ensures.value p k e in
    differ _ _ _ c.ne.result (bytes_eq-Decides c.in_ok-front.front.now _) c.ne.ensures c.if-ne.true
    (s.1 ∙ front ∙ ap (λ i. front_of (4 + i) c.header_at-header.result) m ∙ sym c.put_front.ensures)

pub returns : goal.returns
returns c =
    let s = c.in_ok-front.ensures.cases in
    let w = c.in_ok-sums_len.ensures in
    let d = c.split_at.ensures in
    let front = agree _ _ _ c.ne.result (bytes_eq-Decides c.in_ok-front.front.now _) c.ne.ensures c.if-ne.false ∙ c.put_front.ensures in
    taken c.args.bytes.now c.in_ok-front.front.now c.in_ok-front.rest.now _ _ c.header_at-header.result (search rules) (search rules) ((λ i. s.1 i ++ s.2 i) ∙ take-append-drop _ c.args.bytes.now)
    ((λ i. d.front i ++ d.back i) ∙ take-append-drop _ c.in_ok-front.rest.now) (omega (arith, d.back_len, w)) (omega arith) front
