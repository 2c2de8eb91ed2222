-- The verdict on what the program holds of an answer is that on the answer, and so is the number that it passes with. Assumes nothing.
use Rattle.std.proofs.Common.{◌≡◌, ℕ, ◌<◌, ◌≤◌, cond, List, Option, Some, None, Ok, Err, Result, eqb, refl, sym, ap, ◌∙◌, arith}
use Rattle.std.proofs.lemmas.Bool.{cond-true, cond-false, eq-eqb, ne_eqb}
use Rattle.std.specs.Result.{result_ok}
use Rattle.wire.specs.declared.field.DecodeError.{DecodeError}
use Rattle.wire.specs.Read.{and_then}
use Rattle.ack.specs.declared.ack.PipelineAck.{PipelineAck}
use Rattle.ack.specs.Acks.{AckFields, ack_of}
use Rattle.ack.specs.Reading.{ack_of_fields, ack_read}
use Rattle.ack.specs.Verdicts.{verdict_of, verdict_on, judged, number_if, passes}

verdict_held : (r : Result AckFields DecodeError) → and_then (and_then r (λ a. Ok (ack_of_fields a))) (λ p. Ok (verdict_of p.seqno p.replies.failed)) ≡ and_then r (λ a. Ok (judged a))
unfolding ack_of_fields
verdict_held (Ok a) = refl
verdict_held (Err e) = refl

pub judged_as : (bs : List ℕ) (r : Result PipelineAck DecodeError) → r ≡ ack_read bs → and_then r (λ p. Ok (verdict_of p.seqno p.replies.failed)) ≡ verdict_on bs
unfolding ack_read verdict_on
judged_as bs r e = ap (λ z. and_then z (λ p. Ok (verdict_of p.seqno p.replies.failed))) e ∙ verdict_held (ack_of bs)

-- the number of what the program holds of an answer, where it passes
abbrev number_in : Option PipelineAck → Option ℕ
number_in (Some ack) = cond (eqb ack.replies.failed.count 0) (Some ack.seqno) None
number_in None = None

number_held : (r : Result AckFields DecodeError) → number_in (result_ok (and_then r (λ a. Ok (ack_of_fields a)))) ≡ number_if r
unfolding ack_of_fields
number_held (Ok a) = refl
number_held (Err e) = refl

number_read : (bs : List ℕ) → number_in (result_ok (ack_read bs)) ≡ passes bs
unfolding ack_read passes
number_read bs = number_held (ack_of bs)

pub none_unread : (bs : List ℕ) → None ≡ result_ok (ack_read bs) → None ≡ passes bs
none_unread bs e = ap number_in e ∙ number_read bs

pub none_failed : (bs : List ℕ) (ack : PipelineAck) → Some ack ≡ result_ok (ack_read bs) → 0 < ack.replies.failed.count → None ≡ passes bs
none_failed bs ack e h = sym (cond-false _ _ _ (ne_eqb ack.replies.failed.count 0 (λ z. omega arith))) ∙ ap number_in e ∙ number_read bs

pub some_passed : (bs : List ℕ) (ack : PipelineAck) → Some ack ≡ result_ok (ack_read bs) → ack.replies.failed.count ≤ 0 → Some ack.seqno ≡ passes bs
some_passed bs ack e h = sym (cond-true _ _ _ (eq-eqb ack.replies.failed.count 0 (omega arith))) ∙ ap number_in e ∙ number_read bs
