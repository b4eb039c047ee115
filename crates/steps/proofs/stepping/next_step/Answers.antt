use Rattle.std.specs.Prelude.{Some, Ok}
use Rattle.std.proofs.Common.{◌≡◌, refl, sym, ◌∙◌, true, arith}
use Rattle.tokens.specs.Tokens.{raw_at}
use Rattle.tokens.proofs.TokenLaws.{raw_goes}
use Rattle.steps.specs.Steps.{is_blank}
use Rattle.steps.proofs.StepLaws.{next_refused, next_blank}
use Rattle.steps.proofs.stepping.next_step.Goals as goal

pub loop-lexeme-init : goal.loop-lexeme-init
loop-lexeme-init c = refl

pub loop-lexeme-smaller : goal.loop-lexeme-smaller
loop-lexeme-smaller c =
    let t = c.in-Ok-Some.lexeme in
    let g = raw_goes c.args.text.now c.args.offset c.loop-lexeme.at t.kind t.span t.next cc in
    omega (arith, g.beyond, g.inside)

pub loop-lexeme-preserved : goal.loop-lexeme-preserved
loop-lexeme-preserved c =
    let t = c.in-Ok-Some.lexeme in
    let e : raw_at c.args.text.now c.args.offset c.loop-lexeme.at ≡ Ok (Some t) = cc in
    let b : is_blank t.kind ≡ true = cc in
    c.loop-lexeme.invariant ∙ next_blank _ _ _ _ t e b

pub returns-in-Err : goal.returns-in-Err
returns-in-Err c = sym (c.loop-lexeme.invariant ∙ next_refused c.args.from c.args.text.now c.args.offset c.loop-lexeme.at c.in-Err.refusal cc)
