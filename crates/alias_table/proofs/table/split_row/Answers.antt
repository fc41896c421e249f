use Rattle.std.proofs.Common.{◌∙◌, ◌++◌, ◌∷◌, [], ap, sym, subst, List}
use Rattle.std.specs.Option.{option_copied}
use Rattle.alias_table.specs.Aliases.{Row, alias_type}
use Rattle.alias_table.specs.Splitting.{Splits}
use Rattle.alias_table.proofs.Splits.{splits_known, splits_lacking}
use Rattle.alias_table.proofs.table.split_row.Goals as goal

pub returns-in-Some : goal.returns-in-Some
returns-in-Some c = λ before s on.
    splits_known c.args.others.now.rows before c.args.out.now c.args.row.now s c.in-Some.known.now (sym (ap option_copied (sym c.in-Some.is) ∙ c.ty.ensures ∙ ap (λ n. alias_type c.args.others.now.rows (c.args.row.now.0, n)) c.as_bytes.ensures)) (c.equals.ensures.0 on)

pub returns-in_ok-push-in-None : goal.returns-in_ok-push-in-None
returns-in_ok-push-in-None c = λ before s on. subst (λ (l : List Row). Splits c.args.others.now.rows (before ++ c.args.row.now ∷ []) l)
    (sym (c.in_ok-push-in-None.ensures.ok ∙ ap (λ (r : Row). c.args.out.now ++ r ∷ []) c.in_ok-shared-in-None.ensures))
    (splits_lacking c.args.others.now.rows before c.args.out.now c.args.row.now s (sym (ap option_copied (sym c.in-None.is) ∙ c.ty.ensures ∙ ap (λ n. alias_type c.args.others.now.rows (c.args.row.now.0, n)) c.as_bytes.ensures)))
