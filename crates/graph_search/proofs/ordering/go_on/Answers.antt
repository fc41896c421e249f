use Rattle.std.proofs.Common.{◌≤◌, ℕ, List, length, sym, ap, subst, arith}
use Rattle.graph_search.specs.Visiting.{still_to_do}
use Rattle.graph_search.proofs.Visits.{left_path, took_edge}
use Rattle.graph_search.proofs.ordering.go_on.Goals as goal

pub returns-then-x-edges : goal.returns-then-x-edges
returns-then-x-edges c = left_path c.args.edges.now c.args.seen.now c.args.path.now.items c.args.at

pub returns-then-next-ys : goal.returns-then-next-ys
returns-then-next-ys c =
    let took = took_edge c.args.edges.now c.args.seen.now c.args.path.now.items c.args.at c.index-edges-x.result (omega arith) (sym c.index-edges-x.is) (omega (arith, ap length c.as_slice-ys.ensures)) in
    let h = subst (λ (l : List (ℕ × ℕ)). still_to_do c.args.edges.now c.take_note.new.seen c.take_note.new.path.items ≤ still_to_do c.args.edges.now c.args.seen.now l) c.in_ok-push.ensures.items c.in_ok-take_note.ensures in
    omega arith

pub returns : goal.returns
returns c = left_path c.args.edges.now c.args.seen.now c.args.path.now.items c.args.at
