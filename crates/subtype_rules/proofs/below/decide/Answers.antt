use Rattle.std.proofs.Common.{sym, ap, ◌∙◌, ◌≡◌, refl, subst, true≢false}
use Rattle.alias_table.specs.Table.{unfolded}
use Rattle.subtyping.specs.Numbered.{at, IsKept, AreRefuted}
use Rattle.subtyping.specs.Closed.{IsBelow}
use Rattle.subtyping.proofs.TableNames.{table_itself}
use Rattle.subtyping.proofs.Lifted.{sound, complete}
use Rattle.subtyping.proofs.Justified.{free_below}
use Rattle.subtype_rules.proofs.below.decide.Goals as goal

pub returns-then-is_free : goal.returns-then-is_free
returns-then-is_free c = (λ yes. free_below (unfolded c.args.table.now) c.args.a.now c.args.b.now (sym c.is_free.ensures ∙ c.if-is_free.true), λ below. refl)

pub returns-then-equals : goal.returns-then-equals
returns-then-equals c = (λ yes. subst (λ b. IsBelow (unfolded c.args.table.now) c.args.a.now b) (c.equals.ensures.0 c.if-equals.true) (table_itself c.args.table.now c.args.a.now), λ below. refl)

pub returns-then-is_lost : goal.returns-then-is_lost
returns-then-is_lost c = (λ yes. absurd (true≢false (sym yes)), λ below. absurd (c.is_lost.ensures c.if-is_lost.true (unfolded c.args.table.now) below))

pub returns-then-covered : goal.returns-then-covered
returns-then-covered c = (λ yes. c.in_ok-covered.ensures c.if-covered.true (unfolded c.args.table.now) (table_itself c.args.table.now), λ below. refl)

pub returns : goal.returns
returns c =
    let found = c.in_ok-rows.ensures in
    let kept : IsKept c.in_ok-rows.rows c.in_ok-alive.alive.items = subst (λ rows. IsKept rows c.in_ok-alive.alive.items) c.as_slice.ensures c.in_ok-alive.ensures.kept in
    let gone : AreRefuted c.in_ok-rows.rows c.in_ok-alive.alive.items = subst (λ rows. AreRefuted rows c.in_ok-alive.alive.items) c.as_slice.ensures c.in_ok-alive.ensures.refuted in
    let first : at c.in_ok-alive.alive.items 0 ≡ c.is_alive.result = sym (c.is_alive.ensures ∙ ap (λ l. at l 0) c.as_slice-2.ensures.value) in (
      λ yes. sound (unfolded c.args.table.now) found.0 c.in_ok-rows.rows c.in_ok-alive.alive.items c.args.a.now c.args.b.now found.2 found.3 kept found.1 (first ∙ yes),
      λ below. sym first ∙ complete (unfolded c.args.table.now) found.0 c.in_ok-rows.rows c.in_ok-alive.alive.items c.args.a.now c.args.b.now found.2 found.3 gone found.1 below,
    )
