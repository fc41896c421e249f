-- Lists of parts, from the first to the last.
use Rattle.std.proofs.Common.{◌≡◌, ℕ, zero, suc, ◌+◌, ◌-◌, ◌<◌, ◌≤◌, List, [], ◌∷◌, ◌++◌, length, map, take, get_or, slice_get, Option, Some, None, option_map, refl, sym, ap, ◌∙◌, subst, arith}
use Rattle.std.proofs.lemmas.List.{length-map}
use Rattle.std.proofs.lemmas.Option.{slice_get_within, slice_get-get_or, slice_get-map}
use Rattle.check_values.specs.Rows.{Bytes}
use Rattle.js_grammar.specs.Code as g
use Rattle.code_tree.specs.Flat.{parameter_view, parameters_from, parameters_view}
use Rattle.code_tree.specs.declared.types.Parameter.{Parameter}
use Rattle.typing.specs.Changes as typing
use Rattle.code_tree.specs.Steps.{exs_from, fields_from, links_from, operands_from, arms_from, stmts_from, branches_from}
use Rattle.code_tree.specs.View.{expr_view, exprs_view, field_view, fields_view, link_view, links_view, operand_view, operands_view, arm_view, arms_view, statement_view, statements_view, branch_view, branches_view}
use Rattle.code_tree.specs.declared.types.Expr.{Expr}
use Rattle.code_tree.specs.declared.types.Field.{Field}
use Rattle.code_tree.specs.declared.types.Link.{Link}
use Rattle.code_tree.specs.declared.types.Operand.{Operand}
use Rattle.code_tree.specs.declared.types.Arm.{Arm}
use Rattle.code_tree.specs.declared.types.Statement.{Statement}
use Rattle.code_tree.specs.declared.types.Branch.{Branch}
use Rattle.code_changes.specs.Declaring.{declared_by_statement}
use Rattle.code_changes.specs.Walks.{Tells, walk_view}
use Rattle.code_changes.specs.declared.walk.Walk.{Walk}
use Rattle.code_changes.proofs.Telling.{walked_none}
use Rattle.code_changes.proofs.Lists.{begun, turned, ended, walk_begun, walk_turned, walk_ended}

pub exprs_begun : (w : Walk) (all : List Expr) → Tells w w (typing.changes_of_exs (exprs_view (take 0 all)))
unfolding exprs_view
exprs_begun = walk_begun expr_view (λ l v. g.more_ex l v) exs_from (λ l. refl) (λ l v vs. refl) g.no_ex typing.changes_of_exs typing.changes_of_ex refl (λ l v. refl)

pub exprs_turned : (a b c : Walk) (all : List Expr) (i : ℕ) (x : Expr) → i < length all → x ≡ get_or all i x → Tells a b (typing.changes_of_exs (exprs_view (take i all))) → Tells b c (typing.changes_of_ex (expr_view x)) → Tells a c (typing.changes_of_exs (exprs_view (take (i + 1) all)))
unfolding exprs_view
exprs_turned = walk_turned expr_view (λ l v. g.more_ex l v) exs_from (λ l. refl) (λ l v vs. refl) g.no_ex typing.changes_of_exs typing.changes_of_ex refl (λ l v. refl)

pub exprs_ended : (a b : Walk) (all : List Expr) (i : ℕ) → length all ≤ i → Tells a b (typing.changes_of_exs (exprs_view (take i all))) → Tells a b (typing.changes_of_exs (exprs_view all))
unfolding exprs_view
exprs_ended = walk_ended expr_view (λ l v. g.more_ex l v) exs_from (λ l. refl) (λ l v vs. refl) g.no_ex typing.changes_of_exs typing.changes_of_ex refl (λ l v. refl)

pub fields_begun : (w : Walk) (all : List Field) → Tells w w (typing.changes_of_fields (fields_view (take 0 all)))
unfolding fields_view
fields_begun = walk_begun field_view (λ l v. g.more_field l v) fields_from (λ l. refl) (λ l v vs. refl) g.no_field typing.changes_of_fields typing.changes_of_field refl (λ l v. refl)

pub fields_turned : (a b c : Walk) (all : List Field) (i : ℕ) (x : Field) → i < length all → x ≡ get_or all i x → Tells a b (typing.changes_of_fields (fields_view (take i all))) → Tells b c (typing.changes_of_field (field_view x)) → Tells a c (typing.changes_of_fields (fields_view (take (i + 1) all)))
unfolding fields_view
fields_turned = walk_turned field_view (λ l v. g.more_field l v) fields_from (λ l. refl) (λ l v vs. refl) g.no_field typing.changes_of_fields typing.changes_of_field refl (λ l v. refl)

pub fields_ended : (a b : Walk) (all : List Field) (i : ℕ) → length all ≤ i → Tells a b (typing.changes_of_fields (fields_view (take i all))) → Tells a b (typing.changes_of_fields (fields_view all))
unfolding fields_view
fields_ended = walk_ended field_view (λ l v. g.more_field l v) fields_from (λ l. refl) (λ l v vs. refl) g.no_field typing.changes_of_fields typing.changes_of_field refl (λ l v. refl)

pub links_begun : (w : Walk) (all : List Link) → Tells w w (typing.changes_of_links (links_view (take 0 all)))
unfolding links_view
links_begun = walk_begun link_view (λ l v. g.more_link l v) links_from (λ l. refl) (λ l v vs. refl) g.no_link typing.changes_of_links typing.changes_of_link refl (λ l v. refl)

pub links_turned : (a b c : Walk) (all : List Link) (i : ℕ) (x : Link) → i < length all → x ≡ get_or all i x → Tells a b (typing.changes_of_links (links_view (take i all))) → Tells b c (typing.changes_of_link (link_view x)) → Tells a c (typing.changes_of_links (links_view (take (i + 1) all)))
unfolding links_view
links_turned = walk_turned link_view (λ l v. g.more_link l v) links_from (λ l. refl) (λ l v vs. refl) g.no_link typing.changes_of_links typing.changes_of_link refl (λ l v. refl)

pub links_ended : (a b : Walk) (all : List Link) (i : ℕ) → length all ≤ i → Tells a b (typing.changes_of_links (links_view (take i all))) → Tells a b (typing.changes_of_links (links_view all))
unfolding links_view
links_ended = walk_ended link_view (λ l v. g.more_link l v) links_from (λ l. refl) (λ l v vs. refl) g.no_link typing.changes_of_links typing.changes_of_link refl (λ l v. refl)

pub operands_begun : (w : Walk) (all : List Operand) → Tells w w (typing.changes_of_operands (operands_view (take 0 all)))
unfolding operands_view
operands_begun = walk_begun operand_view (λ l v. g.more_operand l v) operands_from (λ l. refl) (λ l v vs. refl) g.no_operand typing.changes_of_operands typing.changes_of_operand refl (λ l v. refl)

pub operands_turned : (a b c : Walk) (all : List Operand) (i : ℕ) (x : Operand) → i < length all → x ≡ get_or all i x → Tells a b (typing.changes_of_operands (operands_view (take i all))) → Tells b c (typing.changes_of_operand (operand_view x)) → Tells a c (typing.changes_of_operands (operands_view (take (i + 1) all)))
unfolding operands_view
operands_turned = walk_turned operand_view (λ l v. g.more_operand l v) operands_from (λ l. refl) (λ l v vs. refl) g.no_operand typing.changes_of_operands typing.changes_of_operand refl (λ l v. refl)

pub operands_ended : (a b : Walk) (all : List Operand) (i : ℕ) → length all ≤ i → Tells a b (typing.changes_of_operands (operands_view (take i all))) → Tells a b (typing.changes_of_operands (operands_view all))
unfolding operands_view
operands_ended = walk_ended operand_view (λ l v. g.more_operand l v) operands_from (λ l. refl) (λ l v vs. refl) g.no_operand typing.changes_of_operands typing.changes_of_operand refl (λ l v. refl)

pub arms_begun : (w : Walk) (all : List Arm) → Tells w w (typing.changes_of_arms (arms_view (take 0 all)))
unfolding arms_view
arms_begun = walk_begun arm_view (λ l v. g.more_arm l v) arms_from (λ l. refl) (λ l v vs. refl) g.no_arm typing.changes_of_arms typing.changes_of_arm refl (λ l v. refl)

pub arms_turned : (a b c : Walk) (all : List Arm) (i : ℕ) (x : Arm) → i < length all → x ≡ get_or all i x → Tells a b (typing.changes_of_arms (arms_view (take i all))) → Tells b c (typing.changes_of_arm (arm_view x)) → Tells a c (typing.changes_of_arms (arms_view (take (i + 1) all)))
unfolding arms_view
arms_turned = walk_turned arm_view (λ l v. g.more_arm l v) arms_from (λ l. refl) (λ l v vs. refl) g.no_arm typing.changes_of_arms typing.changes_of_arm refl (λ l v. refl)

pub arms_ended : (a b : Walk) (all : List Arm) (i : ℕ) → length all ≤ i → Tells a b (typing.changes_of_arms (arms_view (take i all))) → Tells a b (typing.changes_of_arms (arms_view all))
unfolding arms_view
arms_ended = walk_ended arm_view (λ l v. g.more_arm l v) arms_from (λ l. refl) (λ l v vs. refl) g.no_arm typing.changes_of_arms typing.changes_of_arm refl (λ l v. refl)

pub statements_begun : (w : Walk) (all : List Statement) → Tells w w (typing.changes_of_stmts (statements_view (take 0 all)))
unfolding statements_view
statements_begun = walk_begun statement_view (λ l v. g.more_stmt l v) stmts_from (λ l. refl) (λ l v vs. refl) g.no_stmt typing.changes_of_stmts typing.changes_of_stmt refl (λ l v. refl)

pub statements_turned : (a b c : Walk) (all : List Statement) (i : ℕ) (x : Statement) → i < length all → x ≡ get_or all i x → Tells a b (typing.changes_of_stmts (statements_view (take i all))) → Tells b c (typing.changes_of_stmt (statement_view x)) → Tells a c (typing.changes_of_stmts (statements_view (take (i + 1) all)))
unfolding statements_view
statements_turned = walk_turned statement_view (λ l v. g.more_stmt l v) stmts_from (λ l. refl) (λ l v vs. refl) g.no_stmt typing.changes_of_stmts typing.changes_of_stmt refl (λ l v. refl)

pub statements_ended : (a b : Walk) (all : List Statement) (i : ℕ) → length all ≤ i → Tells a b (typing.changes_of_stmts (statements_view (take i all))) → Tells a b (typing.changes_of_stmts (statements_view all))
unfolding statements_view
statements_ended = walk_ended statement_view (λ l v. g.more_stmt l v) stmts_from (λ l. refl) (λ l v vs. refl) g.no_stmt typing.changes_of_stmts typing.changes_of_stmt refl (λ l v. refl)

pub branches_begun : (w : Walk) (all : List Branch) → Tells w w (typing.changes_of_branches (branches_view (take 0 all)))
unfolding branches_view
branches_begun = walk_begun branch_view (λ l v. g.more_branch l v) branches_from (λ l. refl) (λ l v vs. refl) g.no_branch typing.changes_of_branches typing.changes_of_branch refl (λ l v. refl)

pub branches_turned : (a b c : Walk) (all : List Branch) (i : ℕ) (x : Branch) → i < length all → x ≡ get_or all i x → Tells a b (typing.changes_of_branches (branches_view (take i all))) → Tells b c (typing.changes_of_branch (branch_view x)) → Tells a c (typing.changes_of_branches (branches_view (take (i + 1) all)))
unfolding branches_view
branches_turned = walk_turned branch_view (λ l v. g.more_branch l v) branches_from (λ l. refl) (λ l v vs. refl) g.no_branch typing.changes_of_branches typing.changes_of_branch refl (λ l v. refl)

pub branches_ended : (a b : Walk) (all : List Branch) (i : ℕ) → length all ≤ i → Tells a b (typing.changes_of_branches (branches_view (take i all))) → Tells a b (typing.changes_of_branches (branches_view all))
unfolding branches_view
branches_ended = walk_ended branch_view (λ l v. g.more_branch l v) branches_from (λ l. refl) (λ l v vs. refl) g.no_branch typing.changes_of_branches typing.changes_of_branch refl (λ l v. refl)

declared_more : (ss : g.Stmts) (s : g.Stmt) → typing.declared_in (g.more_stmt ss s) ≡ typing.declared_in ss ++ declared_by_statement s
declared_more ss (g.stmt f t form) = refl

pub declared_begun : (all : List Statement) (start : List Bytes) → start ≡ start ++ typing.declared_in (statements_view (take 0 all))
unfolding statements_view
declared_begun = begun statement_view (λ l v. g.more_stmt l v) stmts_from (λ l. refl) (λ l v vs. refl) g.no_stmt typing.declared_in declared_by_statement refl declared_more

pub declared_turned : (all : List Statement) (i : ℕ) (x : Statement) (start before after : List Bytes) → i < length all → x ≡ get_or all i x → before ≡ start ++ typing.declared_in (statements_view (take i all)) → after ≡ before ++ declared_by_statement (statement_view x) →
    after ≡ start ++ typing.declared_in (statements_view (take (i + 1) all))
unfolding statements_view
declared_turned = turned statement_view (λ l v. g.more_stmt l v) stmts_from (λ l. refl) (λ l v vs. refl) g.no_stmt typing.declared_in declared_by_statement refl declared_more

pub declared_ended : (all : List Statement) (i : ℕ) (start after : List Bytes) → length all ≤ i → after ≡ start ++ typing.declared_in (statements_view (take i all)) → after ≡ start ++ typing.declared_in (statements_view all)
unfolding statements_view
declared_ended = ended statement_view (λ l v. g.more_stmt l v) stmts_from (λ l. refl) (λ l v vs. refl) g.no_stmt typing.declared_in declared_by_statement refl declared_more

-- the names of parameters
abbrev pub name_of_parameter : g.Parameter → List Bytes
name_of_parameter (g.parameter f t name optional annotation) = name ∷ []

named_more : (ps : g.Parameters) (p : g.Parameter) → typing.parameter_names (g.more_parameter ps p) ≡ typing.parameter_names ps ++ name_of_parameter p
named_more ps (g.parameter f t name optional annotation) = refl

pub parameters_begun : (all : List Parameter) (start : List Bytes) → start ≡ start ++ typing.parameter_names (parameters_view (take 0 all))
unfolding parameters_view
parameters_begun = begun parameter_view (λ l v. g.more_parameter l v) parameters_from (λ l. refl) (λ l v vs. refl) g.no_parameter typing.parameter_names name_of_parameter refl named_more

pub parameters_turned : (all : List Parameter) (i : ℕ) (x : Parameter) (start before after : List Bytes) → i < length all → x ≡ get_or all i x → before ≡ start ++ typing.parameter_names (parameters_view (take i all)) → after ≡ before ++ x.name ∷ [] →
    after ≡ start ++ typing.parameter_names (parameters_view (take (i + 1) all))
unfolding parameters_view parameter_view
parameters_turned = turned parameter_view (λ l v. g.more_parameter l v) parameters_from (λ l. refl) (λ l v vs. refl) g.no_parameter typing.parameter_names name_of_parameter refl named_more

pub parameters_ended : (all : List Parameter) (i : ℕ) (start after : List Bytes) → length all ≤ i → after ≡ start ++ typing.parameter_names (parameters_view (take i all)) → after ≡ start ++ typing.parameter_names (parameters_view all)
unfolding parameters_view
parameters_ended = ended parameter_view (λ l v. g.more_parameter l v) parameters_from (λ l. refl) (λ l v vs. refl) g.no_parameter typing.parameter_names name_of_parameter refl named_more

-- ---- the last link tells

last_from : (acc : g.Links) (ls : List g.Link) (l : g.Link) (n : ℕ) → length ls ≡ suc n → slice_get ls n ≡ Some l → typing.change_of_links (links_from acc ls) ≡ typing.change_of_links (g.more_link g.no_link l)
last_from acc [] l n long is = absurd (omega (arith, long))
last_from acc (g.link f t form ∷ []) l zero long is = ap (λ (o : Option g.Link). elim o as (λ _. List typing.Change) [ None ↦ [] | Some m ↦ typing.change_of_links (g.more_link g.no_link m) ]) is
last_from acc (g.link f t form ∷ []) l (suc n) long is = absurd (omega (arith, long))
last_from acc (k ∷ j ∷ ls) l zero long is = absurd (omega (arith, long))
last_from acc (k ∷ j ∷ ls) l (suc n) long is = last_from (g.more_link acc k) (j ∷ ls) l n (omega (arith, long)) is

last_link : (ls : List Link) (l : Link) → slice_get ls (length ls - 1) ≡ Some l → typing.change_of_links (links_view ls) ≡ typing.change_of_links (g.more_link g.no_link (link_view l))
unfolding links_view
last_link ls l is =
    let within : length ls - 1 < length ls = slice_get_within ls (length ls - 1) l is in
    last_from g.no_link (map link_view ls) (link_view l) (length ls - 1) (length-map ls link_view ∙ omega (arith, within)) (slice_get-map link_view ls (length ls - 1) ∙ ap (option_map link_view) is)

pub last_told : (w v : Walk) (ls : List Link) (l : Link) → Some l ≡ slice_get ls (length ls - 1) → Tells w v (typing.change_of_links (g.more_link g.no_link (link_view l))) → Tells w v (typing.change_of_links (links_view ls))
last_told w v ls l is walks = subst (Tells w v) (sym (last_link ls l (sym is))) walks

pub none_told : (w : Walk) (ls : List Link) → None ≡ slice_get ls (length ls - 1) → Tells w w (typing.change_of_links (links_view ls))
unfolding links_view
none_told w [] is = sym (walked_none (walk_view w))
none_told w (k ∷ ls) is = absurd (let within : length (k ∷ ls) - 1 < length (k ∷ ls) = omega arith in let there : None ≡ Some (get_or (k ∷ ls) (length (k ∷ ls) - 1) k) = is ∙ slice_get-get_or (k ∷ ls) (length (k ∷ ls) - 1) k within in cc)
