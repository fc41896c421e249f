use Rattle.std.proofs.Common.{ℕ, ◌≡◌, ◌<◌, ◌≤◌, List, false, [], length, get_or, slice_get, sym, ap, ◌∙◌, arith, length-set}
use Rattle.std.proofs.lemmas.Option.{slice_get-get_or}
use Rattle.entity_heap.specs.declared.board.Plan.{Plan}
use Rattle.entity_heap.specs.declared.board.Role.TheVariants.{Writes}
use Rattle.entity_heap.specs.Plans.{plan_of, rolling}
use Rattle.entity_heap.proofs.Plans.{length-restored}
use Rattle.entity_heap.proofs.Parts.{get_any, all_false, restored_more, same_list}
use Rattle.entity_heap.proofs.Listed.{ahead_less, ahead_same, none_ahead}
use Rattle.entity_heap.proofs.heap.parts.roll_all.Goals as goal
use Rattle.entity_heap.proofs.heap.parts.roll_all.Goals.{then-index, else-index}

pub loop-e-preserved : goal.loop-e-preserved
loop-e-preserved g c =
    let inv = c.loop-e.invariant in let bs = c.loop-e.staged.items in let ks = c.deref-e-items.result.now in let i : ℕ = c.loop-e.e-index in let e : ℕ = get_or ks i 0 in
    let here : i < length ks = omega arith in let named = slice_get-get_or ks i 0 here in
    let bound : e < c.args.entities = c.requires.within i e (ap (λ (l : List ℕ). slice_get l i) (sym c.deref-e-items.ensures.value) ∙ named) in
    let m = inv.many in let inside : e < length bs = omega arith in
    let q : Plan g.row.P.Denot = plan_of c.args.place.now.me.0 in let p : Plan g.row.P.Denot = plan_of c.loop-e.place.me.0 in
    let at : get_or bs e false ≡ c.index.result.now = get_any bs e false c.index.result.now inside ∙ sym c.index.ensures in
    let is_p = ap (λ m. plan_of m.0) inv.me in
    elim c.if-index.branch [
      | then-index w ↦
          let ss = ap (λ v. v.items) w.staged-is in let pl = w.place-is in
          let to = ap (λ z. z.me) pl ∙ (w.roll.ensures.rolled ∙ (λ j. (Writes (rolling (is_p j) e), ap (λ m. m.1) inv.me j))) in
          let nx = ap (λ m. (plan_of m.0).next) to in
          record {
            table = ap (λ z. z.table_id) pl ∙ (w.roll.ensures.same.0 ∙ inv.table);
            me = to ∙ (λ j. let z : Plan g.row.P.Denot = record q { next = sym nx j; staged = sym ss j } in (Writes z, []));
            many = ap length ss ∙ (length-set bs e false ∙ inv.many);
            long = ap length nx ∙ (length-restored q.committed p.next e ∙ inv.long);
            unstaged = λ k off. ap (λ xs. slice_get xs k) nx ∙ restored_more q.committed p.next bs e (let a = c.requires.lists in let b = a.4 in let l = inv.long in omega arith) inv.unstaged k (ap (λ bs'. get_or bs' k false) (sym ss) ∙ off);
            ahead = λ k up. ahead_less bs ks i e named inv.ahead k (ap (λ bs'. get_or bs' k false) (sym ss) ∙ up);
          }
      | else-index w ↦
          let ss = ap (λ v. v.items) w.staged-is in let pl = w.place-is in let nx = ap (λ z. (plan_of z.me.0).next) pl in record {
            table = ap (λ z. z.table_id) pl ∙ inv.table;
            me = ap (λ z. z.me) pl ∙ (inv.me ∙ (λ j. let z : Plan g.row.P.Denot = record q { next = sym nx j; staged = sym ss j } in (Writes z, [])));
            many = ap length ss ∙ inv.many;
            long = ap length nx ∙ inv.long;
            unstaged = λ k off. ap (λ xs. slice_get xs k) nx ∙ inv.unstaged k (ap (λ bs'. get_or bs' k false) (sym ss) ∙ off);
            ahead = λ k up. ahead_same bs ks i e named (at ∙ w.if-index.false) inv.ahead k (ap (λ bs'. get_or bs' k false) (sym ss) ∙ up);
          }
    ]

pub returns-clause-staged : goal.returns-clause-staged
returns-clause-staged g c =
    let inv = c.loop-e.invariant in let m = inv.many in let a = c.requires.lists in let b = a.3 in let ks = c.deref-e-items.result.now in let i : ℕ = c.loop-e.e-index in let past : length ks ≤ i = omega arith in
    all_false c.loop-e.staged.items c.args.staged.now.items (omega arith) (λ k _. none_ahead c.loop-e.staged.items ks i past inv.ahead k)

pub returns-clause-rolled : goal.returns-clause-rolled
returns-clause-rolled g c =
    let inv = c.loop-e.invariant in let m = inv.many in let a = c.requires.lists in let b = a.3 in let b' = a.4 in let l = inv.long in
    let q : Plan g.row.P.Denot = plan_of c.args.place.now.me.0 in let p : Plan g.row.P.Denot = plan_of c.loop-e.place.me.0 in let bs = c.loop-e.staged.items in
    let ks = c.deref-e-items.result.now in let i : ℕ = c.loop-e.e-index in let past : length ks ≤ i = omega arith in let off = none_ahead bs ks i past inv.ahead in
    let none = all_false bs q.staged (let f = ap length a.1 in omega arith) (λ k _. off k) in
    let same = same_list p.next q.committed (omega arith) (λ k. inv.unstaged k (off k)) in
    inv.me ∙ (λ j. let z : Plan g.row.P.Denot = record q { next = same j; staged = none j } in (Writes z, []))
