use Rattle.std.proofs.Common.{◌≡◌, drop, ap, ◌∙◌, arith}
use Rattle.std.proofs.lemmas.Grind.{common_steps}
use Rattle.recording.specs.Lines.{line_of}
use Rattle.recording.proofs.Ends.{line_is}
use Rattle.recording.proofs.lines.line_at.Goals as goal

pub returns-clause-value : goal.returns-clause-value
returns-clause-value c =
    let rest = c.unwrap_or_default-rest.result.now in
    let from : rest ≡ drop c.args.at c.args.text.now = grind (arith, common_steps) in
    line_is rest _ _ c.newline.ensures c.unwrap_or.ensures ∙ ap line_of from
