-- Lists of one, and others.
use Rattle.std.specs.Option.{option_or}
use Rattle.std.proofs.Common.{Result, Ok, Err, IfOk, true, cond, unwrap_or, ◌≡◌, ◌≢◌, ℕ, Bool, false, List, [], ◌∷◌, length, get_or, map, Option, Some, None, refl, sym, ap, ◌∙◌, arith}
use Rattle.js_grammar.specs.Code as g
use Rattle.js_grammar.specs.Code.{Prefix, negation, minus_sign, plus_sign, kind_of, Prefixes, no_prefix, more_prefix, Ex, prefixed, member, index, call, Link, link, Links, no_link, more_link, Operand, Operands, no_operand, more_operand}
use Rattle.code_tree.specs.declared.types.PrefixMark.{PrefixMark}
use Rattle.code_tree.specs.declared.types.Link as code
use Rattle.code_tree.specs.declared.types.Operand as code_operand
use Rattle.code_tree.specs.View.{link_view, links_view, operand_view, operands_view}
use Rattle.code_tree.specs.Flat.{prefix_view, prefixes_from, prefixes_view}
use Rattle.code_tree.specs.Steps.{links_from, operands_from}
use Rattle.check_values.specs.Rows.{Bytes}
use Rattle.typing.specs.Names.{Scope}
use Rattle.typing.specs.Tests as typing
use Rattle.typing.specs.Forms.{compared, is_equality}
use Rattle.place_tests.specs.Only.{is_kind_of, only_member, tested_behind, form_of}
use Rattle.place_tests.specs.View.{with_negated, equality_of, either_side, operator_compared, form_compared}
use Rattle.place_tests.specs.declared.comparison.Equality.{Equality}

-- what marks test, by whether they are one `typeof`
pub behind_is : (scope : Scope) (ps : Prefixes) (e : Ex) → typing.tested_in_form scope (prefixed ps e) ≡ tested_behind scope ps e
behind_is scope no_prefix e = refl
behind_is scope (more_prefix no_prefix at negation) e = refl
behind_is scope (more_prefix no_prefix at minus_sign) e = refl
behind_is scope (more_prefix no_prefix at plus_sign) e = refl
behind_is scope (more_prefix no_prefix at kind_of) e = refl
behind_is scope (more_prefix (more_prefix ps i q) at p) e = refl

-- one property step, by the only link
pub step_is : (from : Option ℕ) (ls : Links) → typing.step_place from ls ≡ (elim (only_member ls) [ None ↦ None | Some key ↦ typing.property_of from key ])
step_is from no_link = refl
step_is from (more_link no_link (link f t (member key))) = refl
step_is from (more_link no_link (link f t (index e))) = refl
step_is from (more_link no_link (link f t (call es comma))) = refl
step_is from (more_link (more_link ls k) l) = refl

-- ---- lists that are longer than one

prefixes_grow : (ps : Prefixes) (i : ℕ) (q : Prefix) (at : ℕ) (p : Prefix) (ms : List PrefixMark) → is_kind_of (prefixes_from (more_prefix (more_prefix ps i q) at p) ms) ≡ false
prefixes_grow ps i q at p [] = refl
prefixes_grow ps i q at p (m ∷ ms) = prefixes_grow (more_prefix ps i q) at p m.at (prefix_view m.prefix) ms

pub other_marks : (ms : List PrefixMark) → length ms ≢ 1 → false ≡ is_kind_of (prefixes_view ms)
unfolding prefixes_view
other_marks [] other = refl
other_marks (m ∷ []) other = absurd (other refl)
other_marks (m ∷ n ∷ ms) other = sym (prefixes_grow no_prefix m.at (prefix_view m.prefix) n.at (prefix_view n.prefix) ms)

pub one_mark : (ms : List PrefixMark) (m : PrefixMark) (told : Bool) → length ms ≡ 1 → told ≡ is_kind_of (more_prefix no_prefix (get_or ms 0 m).at (prefix_view (get_or ms 0 m).prefix)) → told ≡ is_kind_of (prefixes_view ms)
unfolding prefixes_view
one_mark [] m told one tells = absurd (omega (arith, one))
one_mark (n ∷ []) m told one tells = tells
one_mark (n ∷ k ∷ ms) m told one tells = absurd (omega (arith, one))

links_grow : (ls : Links) (k l : Link) (more : List Link) → only_member (links_from (more_link (more_link ls k) l) more) ≡ None
links_grow ls k l [] = refl
links_grow ls k l (m ∷ more) = links_grow (more_link ls k) l m more

pub other_links : (ls : List code.Link) → length ls ≢ 1 → None ≡ only_member (links_view ls)
unfolding links_view
other_links [] other = refl
other_links (k ∷ []) other = absurd (other refl)
other_links (k ∷ l ∷ more) other = sym (links_grow no_link (link_view k) (link_view l) (map link_view more))

pub one_link : (ls : List code.Link) (l : code.Link) (told : Option Bytes) → length ls ≡ 1 → l ≡ get_or ls 0 l → told ≡ only_member (more_link no_link (link_view l)) → told ≡ only_member (links_view ls)
unfolding links_view
one_link [] l told one is tells = absurd (omega arith)
one_link (k ∷ []) l told one is tells = tells ∙ ap (λ (x : code.Link). only_member (more_link no_link (link_view x))) is
one_link (k ∷ j ∷ more) l told one is tells = absurd (omega arith)

operands_grow : (scope : Scope) (e : Ex) (os : Operands) (o p : Operand) (more : List Operand) → compared scope e (operands_from (more_operand (more_operand os o) p) more) ≡ None
operands_grow scope e os o p [] = refl
operands_grow scope e os o p (q ∷ more) = operands_grow scope e (more_operand os o) p q more

pub other_operands : (scope : Scope) (e : Ex) (os : List code_operand.Operand) → length os ≢ 1 → None ≡ compared scope e (operands_view os)
unfolding operands_view
other_operands scope e [] other = refl
other_operands scope e (o ∷ []) other = absurd (other refl)
other_operands scope e (o ∷ p ∷ more) other = sym (operands_grow scope e no_operand (operand_view o) (operand_view p) (map operand_view more))

pub one_operand : (scope : Scope) (e : Ex) (os : List code_operand.Operand) (o : code_operand.Operand) (told : Option (typing.Comparison × Bool)) → length os ≡ 1 → o ≡ get_or os 0 o → told ≡ compared scope e (more_operand no_operand (operand_view o)) → told ≡ compared scope e (operands_view os)
unfolding operands_view
one_operand scope e [] o told one is tells = absurd (omega arith)
one_operand scope e (p ∷ []) o told one is tells = tells ∙ ap (λ (x : code_operand.Operand). compared scope e (more_operand no_operand (operand_view x))) is
one_operand scope e (p ∷ q ∷ more) o told one is tells = absurd (omega arith)

-- ---- what an operator compares

or_negated : (negated : Bool) (x y : Option typing.Comparison) → option_or (with_negated negated x) (with_negated negated y) ≡ with_negated negated (option_or x y)
or_negated negated None y = refl
or_negated negated (Some x) y = refl

-- how an operator compares, if it is one of equality
abbrev made_equality : Bool → g.Operator → Option Equality
made_equality c op = cond c (Some (record { strict = typing.is_strict op; negated = typing.is_negated op })) None

pub by_equality : (scope : Scope) (e b : Ex) (op : g.Operator) (q : Equality) (told : Option (typing.Comparison × Bool)) → Some q ≡ equality_of op → told ≡ either_side scope q e b → told ≡ operator_compared scope e op b
by_equality scope e b op q told is tells = tells ∙ go (is_equality op) is
  where
    go : (c : Bool) → Some q ≡ made_equality c op → either_side scope q e b ≡ cond c (with_negated (typing.is_negated op) (typing.comparison_of scope op e b)) None
    go true f =
        let same : q ≡ record { strict = typing.is_strict op; negated = typing.is_negated op } = ap (λ (o : Option Equality). unwrap_or o q) f in
        ap (λ (x : Equality). either_side scope x e b) same
        ∙ or_negated (typing.is_negated op) (typing.comparison_with (typing.is_strict op) (typing.tested_in scope e) (typing.compared_with scope b)) (typing.comparison_with (typing.is_strict op) (typing.tested_in scope b) (typing.compared_with scope e))
    go false f = absurd cc

pub no_equality : (scope : Scope) (e b : Ex) (op : g.Operator) → None ≡ equality_of op → None ≡ operator_compared scope e op b
no_equality scope e b op is = go (is_equality op) is
  where
    go : (c : Bool) → None ≡ made_equality c op → None ≡ cond c (with_negated (typing.is_negated op) (typing.comparison_of scope op e b)) None
    go true f = absurd cc
    go false f = refl

negated_is : (negated : Bool) (o : Option typing.Comparison) → with_negated negated o ≡ elim o as (λ _. Option (typing.Comparison × Bool)) [ None ↦ None | Some c ↦ Some (c, negated) ]
negated_is negated None = refl
negated_is negated (Some c) = refl

pub operand_compared : (scope : Scope) (e : Ex) (o : g.Operand) (form : g.OperandForm) (told : Option (typing.Comparison × Bool)) → told ≡ form_compared scope e form → form_of o ≡ form → told ≡ compared scope e (more_operand no_operand o)
operand_compared scope e (g.operand f t own) (g.right_side op b) told tells is =
    tells ∙ ap (λ (x : Option (typing.Comparison × Bool)). cond (is_equality op) x None) (negated_is (typing.is_negated op) (typing.comparison_of scope op e b)) ∙ sym (ap (λ (x : g.OperandForm). compared scope e (more_operand no_operand (g.operand f t x))) is)
operand_compared scope e (g.operand f t own) (g.as_type v) told tells is = tells ∙ sym (ap (λ (x : g.OperandForm). compared scope e (more_operand no_operand (g.operand f t x))) is)

-- what follows for the result of a call that succeeds
pub if_ok : {A E : Type 0} {P Q : A → Type 0} (r : Result A E) → ((x : A) → P x → Q x) → IfOk r P → IfOk r Q
if_ok (Ok x) f told = f x told
if_ok (Err e) f told = told
