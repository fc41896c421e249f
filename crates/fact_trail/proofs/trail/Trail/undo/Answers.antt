use Rattle.std.proofs.Common.{drop, Result, Ok, Err, OnErr, sym, ap, ◌∙◌}
use Rattle.std.proofs.lemmas.List.{append-nil}
use Rattle.fact_trail.specs.Moments.{map_of, undone, IsSame}
use Rattle.fact_trail.proofs.Changes.{one_less, new_earlier, new_same, none_now}
use Rattle.fact_trail.proofs.trail.Trail.undo.Goals as goal

on_err : {T E : Type 0} (r : Result T E) (P : Type 0) → P → OnErr r P
on_err (Ok x) P is = tt
on_err (Err x) P is = is

pub returns-in_err-take_back-in-Some-clause-err : goal.returns-in_err-take_back-in-Some-clause-err
returns-in_err-take_back-in-Some-clause-err c =
    let refused = c.in_err-take_back-in-Some.ensures.err in on_err c.from_residual.result (IsSame c.args.self.now c.take_back.new.self) (refused.0, refused.1 ∙ sym c.in-Some.ensures.items)

pub returns-in_err-take_back-in-Some-clause-fresh : goal.returns-in_err-take_back-in-Some-clause-fresh
returns-in_err-take_back-in-Some-clause-fresh c = λ s was.
    let refused = c.in_err-take_back-in-Some.ensures.err in new_same c.args.self.now c.take_back.new.self s (refused.0, refused.1 ∙ sym c.in-Some.ensures.items) was

pub returns-in_ok-take_back-in-Some-clause-moments : goal.returns-in_ok-take_back-in-Some-clause-moments
returns-in_ok-take_back-in-Some-clause-moments c =
    let back = c.in_ok-take_back-in-Some.ensures.back in
    one_less c.pop.new.self.items c.args.self.now.changes.items c.take_back.new.self.changes.items c.in-Some.change (map_of c.args.self.now) (map_of c.take_back.new.self) c.in-Some.ensures.items back.changes back.made

pub returns-in_ok-take_back-in-Some-clause-quiet : goal.returns-in_ok-take_back-in-Some-clause-quiet
returns-in_ok-take_back-in-Some-clause-quiet c = λ s was. let back = c.in_ok-take_back-in-Some.ensures.back in back.quiet s (none_now c.args.self.now s was)

pub returns-in_ok-take_back-in-Some-clause-fresh : goal.returns-in_ok-take_back-in-Some-clause-fresh
returns-in_ok-take_back-in-Some-clause-fresh c = λ s was.
    let back = c.in_ok-take_back-in-Some.ensures.back in
    new_earlier c.args.self.now c.take_back.new.self s
    (one_less c.pop.new.self.items c.args.self.now.changes.items c.take_back.new.self.changes.items c.in-Some.change (map_of c.args.self.now) (map_of c.take_back.new.self) c.in-Some.ensures.items back.changes back.made)
    was

pub returns-in-None-clause-moments : goal.returns-in-None-clause-moments
returns-in-None-clause-moments c = λ n within. ap (λ l. undone (drop n l) (map_of c.args.self.now)) (sym (c.in-None.ensures.items ∙ append-nil c.pop.new.self.items))
