-- A module sees one thing by a table.
use Rattle.std.proofs.Common.{◌≡◌, ◌↔◌, Bool, true, false, IsTrue, [], ◌∷◌, refl, sym, subst}
use Rattle.js_grammar.specs.Items.{Module}
use Rattle.check_values.specs.Rows.{Bytes}
use Rattle.check_values.specs.declared.signatures.Deps.{Deps}
use Rattle.type_values.specs.declared.types.FlowType.{FlowType}
use Rattle.alias_table.specs.Aliases.{Key}
use Rattle.alias_table.specs.Members.{AreMembers}
use Rattle.alias_members.proofs.MemberLemmas.{one_way}
use Rattle.subtyping.specs.Closed.{IsBelow}
use Rattle.module_errors.specs.Program.{Program}
use Rattle.errors_by_reach.specs.Seen.{Sigs, alias_type, unfolded, IsSeen}

-- two answers to one question are the same
same_answer : (b c : Bool) {P : Type 0} → IsTrue b ↔ P → IsTrue c ↔ P → b ≡ c
same_answer true true p q = refl
same_answer false false p q = refl
same_answer true false p q = sym (q.1 (p.0 refl))
same_answer false true p q = p.1 (q.0 refl)

same_cyclic : (path : Bytes) (deps : Deps) (m : Module) (table : Sigs) (p q : Program) → IsSeen path deps m table p → IsSeen path deps m table q → p.is_cyclic ≡ q.is_cyclic
same_cyclic path deps m table p q s t = λ i name. same_answer (p.is_cyclic name) (q.is_cyclic name) (s.cyclic name) (t.cyclic name) i

same_names : (path : Bytes) (deps : Deps) (m : Module) (table : Sigs) (p q : Program) → IsSeen path deps m table p → IsSeen path deps m table q
    → unfolded q.is_cyclic (alias_type path deps m table) ≡ unfolded p.is_cyclic (alias_type path deps m table)
same_names path deps m table p q s t = λ i. unfolded (sym (same_cyclic path deps m table p q s t) i) (alias_type path deps m table)

same_members : (path : Bytes) (deps : Deps) (m : Module) (table : Sigs) (p q : Program) → IsSeen path deps m table p → IsSeen path deps m table q → p.members ≡ q.members
same_members path deps m table p q s t = λ i x.
    (one_way (unfolded p.is_cyclic (alias_type path deps m table)) (s.members x)
    (subst (λ (named : Key → FlowType). AreMembers named (x ∷ []) (q.members x)) (same_names path deps m table p q s t) (t.members x)) refl).0 i

same_below : (path : Bytes) (deps : Deps) (m : Module) (table : Sigs) (p q : Program) → IsSeen path deps m table p → IsSeen path deps m table q → p.below ≡ q.below
same_below path deps m table p q s t = λ i a b.
    same_answer (p.below a b) (q.below a b) (s.below a b)
    (subst (λ (named : Key → FlowType). IsTrue (q.below a b) ↔ IsBelow named a b) (same_names path deps m table p q s t) (t.below a b)) i

pub one_view : (path : Bytes) (deps : Deps) (m : Module) (table : Sigs) (p q : Program) → IsSeen path deps m table p → IsSeen path deps m table q → p ≡ q
one_view path deps m table p q s t =
    let paths : p.path ≡ q.path = rw s.at_path (sym t.at_path) in
    let lists : p.deps ≡ q.deps = rw s.by_list (sym t.by_list) in
    let tables : p.sigs ≡ q.sigs = rw s.by_table (sym t.by_table) in
    let cycles : p.is_cyclic ≡ q.is_cyclic = same_cyclic path deps m table p q s t in
    let members : p.members ≡ q.members = same_members path deps m table p q s t in
    let below : p.below ≡ q.below = same_below path deps m table p q s t in
    λ i. record { path = paths i; deps = lists i; sigs = tables i; is_cyclic = cycles i; members = members i; below = below i }
