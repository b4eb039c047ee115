use Rattle.std.proofs.Common.{rules, ◌≡◌, ◌+◌, ◌∙◌, ap, sym}
use Rattle.std.specs.List.{count_by}
use Rattle.files.specs.Lines.{is_newline, line_behind}
use Rattle.files.proofs.Counted.{counted}
use Rattle.files.proofs.lines.line_behind.Goals as goal

pub returns : goal.returns
unfolding line_behind is_newline
returns c =
    let ran : c.count.result ≡ count_by is_newline c.args.before.now = search rules in
    ap (λ n. 1 + n) (ran ∙ sym (counted is_newline c.args.before.now))
