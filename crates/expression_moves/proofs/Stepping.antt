-- Variables, properties, indices and calls, once their parts were read.
use Rattle.std.proofs.Common.{◌≡◌, ℕ, suc, ◌-◌, List, map, Bool, true, false, Option, Some, None, cond, if◌then◌else◌, refl, sym, ap, ◌∙◌}
use Rattle.check_values.specs.Rows.{Bytes}
use Rattle.check_values.specs.declared.codes.Code.{Code}
use Rattle.type_values.specs.declared.types.FlowType.{FlowType}
use Rattle.type_values.specs.declared.types.FlowType as made
use Rattle.type_terms.specs.Show.{brief}
use Rattle.flow_facts.specs.declared.place.Place.{Place}
use Rattle.flow_facts.specs.declared.test.Test.{Test}
use Rattle.flow_facts.specs.declared.test.Test as test
use Rattle.flow_facts.specs.Known.{live, without_properties, variable_place, type_at}
use Rattle.refine_flow.specs.Standing.{known}
use Rattle.refine_flow.specs.declared.facts.Facts.{Facts}
use Rattle.scopes.specs.Rows.{kind_view}
use Rattle.scopes.specs.View.{Tells}
use Rattle.scopes.specs.declared.binding.Kind.{Kind}
use Rattle.scopes.specs.declared.binding.Variable.{Variable}
use Rattle.scopes.specs.declared.binding.Meaning.TheVariants as meaning
use Rattle.check_world.specs.View.{notes_view}
use Rattle.typing.specs.Names.{Scope, Binding, Meaning, variable_of, no_variable, meaning_of, has_facts_kind}
use Rattle.typing.specs.States.{World, Now, Out, after, on_yes, plainly, change_facts, change_notes, assume, name_fault, fault_at, add_faults}
use Rattle.typing.specs.Members.{Arg, Step, levels, property_read, index_read, steps_type, steps_faults}
use Rattle.typing.specs.Forms.{variable_place_of, maybe_place_out, variable_meant, variable_out, property_out, index_out, call_out, compared_out, signed_out, number_asked}
use Rattle.typing.specs.Tests.{assume_on_property}
use Rattle.place_tests.specs.View.{comparison_view}
use Rattle.place_tests.specs.declared.comparison.Comparison.{Comparison}
use Rattle.expression_moves.specs.Moves.{assume_by}
use Rattle.part_steps.specs.Members.{part_at, call_at, steps_called, faults_called}
use Rattle.part_steps.specs.View.{IsGiven, IsCalled}
use Rattle.part_steps.specs.declared.members.Given.{Given}
use Rattle.check_moves.specs.declared.state.State.{State}
use Rattle.check_moves.specs.declared.state.Read.{Read}
use Rattle.check_moves.specs.View.{now, told}

-- ---- variables

-- the place of a name that has facts, and of one that has none
pub place_known : (number : ℕ) (kind : Kind) (has : Bool) (p : Place) (b : Binding) → has ≡ has_facts_kind (kind_view kind) → has ≡ true → p ≡ variable_place number →
    number ≡ b.number → kind_view kind ≡ b.kind → Some p ≡ variable_place_of b
place_known number kind has p b is on place same alike = ap Some (place ∙ ap variable_place same) ∙ go (has_facts_kind b.kind) (sym (ap has_facts_kind alike) ∙ sym is ∙ on)
  where
    go : (has : Bool) → has ≡ true → Some (variable_place b.number) ≡ cond has (Some (variable_place b.number)) None
    go true is = refl
    go false is = absurd (cc)

pub no_place_known : (kind : Kind) (has : Bool) (b : Binding) → has ≡ has_facts_kind (kind_view kind) → has ≡ false → kind_view kind ≡ b.kind → None ≡ variable_place_of b
no_place_known kind has b is off alike = go (has_facts_kind b.kind) (sym (ap has_facts_kind alike) ∙ sym is ∙ off)
  where
    go : (has : Bool) → has ≡ false → None ≡ cond has (Some (variable_place b.number)) None
    go true is = absurd (cc)
    go false is = refl

-- a name that means a variable
pub variable_read : (w : World) (f t : ℕ) (name : Bytes) (scope : Scope) (n : Now) (v : Variable) (declared : FlowType) (place : Option Place) (o : Out) → Tells (meaning.Variable v declared) (meaning_of scope name) →
    ((b : Binding) → v.number ≡ b.number → kind_view v.kind ≡ b.kind → place ≡ variable_place_of b) → o ≡ maybe_place_out w place declared n → o ≡ variable_out w f t name scope n
variable_read w f t name scope n v declared place o tells place_is is = go (meaning_of scope name) tells
  where
    go : (m : Meaning) → Tells (meaning.Variable v declared) m → o ≡ variable_meant w f t name n m
    go (variable_of b u) tells = is ∙ (λ i. maybe_place_out w (place_is b tells.0 tells.1 i) (tells.2 i) n)
    go (no_variable code) tells = absurd tells

-- a name that means none
pub no_variable_read : (w : World) (f t : ℕ) (name details : Bytes) (scope : Scope) (code : Code) (a b : State) → Tells (meaning.NoVariable code) (meaning_of scope name) → details ≡ name → b.facts ≡ a.facts →
    notes_view b.notes ≡ name_fault (fault_at w f t code details) (notes_view a.notes) → told (record { ty = made.Any; fork = None }) b ≡ variable_out w f t name scope (now a)
unfolding told now
no_variable_read w f t name details scope code a b tells named same is = go (meaning_of scope name) tells
  where
    go : (m : Meaning) → Tells (meaning.NoVariable code) m → record { ty = made.Any; yes = known b.facts; no = None; notes = notes_view b.notes } ≡ variable_meant w f t name (record { facts = known a.facts; notes = notes_view a.notes }) m
    go (variable_of b u) tells = absurd tells
    go (no_variable own) tells =
        λ i. record { ty = made.Any; yes = known (same i); no = None; notes = (is ∙ (λ j. name_fault (fault_at w f t (tells j) (named j)) (notes_view a.notes))) i }

-- a place that has a type, where it has no fact
pub place_read : (w : World) (p : Place) (declared ty : FlowType) (r : Read) (a b : State) → ty ≡ type_at (now a).facts p declared →
    told r b ≡ record { ty = ty; yes = assume w test.Truthy p declared (now a).facts; no = Some (assume w test.Falsy p declared (now a).facts); notes = (now a).notes } → told r b ≡ maybe_place_out w (Some p) declared (now a)
place_read w p declared ty r a b own is =
    is ∙ (λ i. record { ty = own i; yes = assume w test.Truthy p declared (now a).facts; no = Some (assume w test.Falsy p declared (now a).facts); notes = (now a).notes })

-- ---- comparisons of a place

pub literal_compared : (w : World) (lit : Bool) (p : Place) (t : Test) (a b c : State) → lit ≡ true → now b ≡ change_facts (assume w t p made.Any) (now a) →
    now c ≡ change_facts (assume_on_property w t p.binding p.prop) (now b) → now c ≡ change_facts (assume_by w lit p t) (now a)
literal_compared w lit p t a b c is first second =
    second ∙ ap (λ (n : Now). change_facts (assume_on_property w t p.binding p.prop) n) first ∙ ap (λ (lit : Bool). change_facts (assume_by w lit p t) (now a)) (sym is)

pub plainly_compared : (w : World) (lit : Bool) (p : Place) (t : Test) (a b : State) → lit ≡ false → now b ≡ change_facts (assume w t p made.Any) (now a) → now b ≡ change_facts (assume_by w lit p t) (now a)
plainly_compared w lit p t a b is first = first ∙ ap (λ (lit : Bool). change_facts (assume_by w lit p t) (now a)) (sym is)

pub compared_ways : (w : World) (c : Comparison) (ty : FlowType) (tests : Test × Test) (r : Read) (a b : State) →
    tests ≡ (if c.negated then c.differ else c.equal, if c.negated then c.equal else c.differ) →
    told r b ≡ record { ty = ty; yes = assume_by w c.is_literal c.place tests.0 (now a).facts; no = Some (assume_by w c.is_literal c.place tests.1 (now a).facts); notes = (now a).notes } →
    told r b ≡ compared_out w (Some (comparison_view c)) (plainly ty (now a))
compared_ways w c ty tests r a b ordered is =
    is ∙ (λ i. record { ty = ty; yes = assume_by w c.is_literal c.place (ordered i).0 (now a).facts; no = Some (assume_by w c.is_literal c.place (ordered i).1 (now a).facts); notes = (now a).notes })
    ∙ go c.negated
  where
    go : (negated : Bool) → record {
      ty = ty;
      yes = assume_by w c.is_literal c.place (if negated then c.differ else c.equal) (now a).facts;
      no = Some (assume_by w c.is_literal c.place (if negated then c.equal else c.differ) (now a).facts);
      notes = (now a).notes;
    } ≡ compared_out w (Some (record { place = c.place; equal = c.equal; differ = c.differ; is_literal = c.is_literal }, negated)) (plainly ty (now a))
    go true = refl
    go false = refl

pub compared_behind : (w : World) (c : Comparison) (read r : Read) (u : FlowType) (a b d : State) → now b ≡ on_yes (told read a) → u ≡ read.ty →
    told r d ≡ compared_out w (Some (comparison_view c)) (plainly u (now b)) → told r d ≡ compared_out w (Some (comparison_view c)) (told read a)
unfolding told
compared_behind w c read r u a b d behind own is = is ∙ (λ i. compared_out w (Some (comparison_view c)) (plainly (own i) (behind i)))

-- ---- marks

pub kind_read : (read : Read) (a b : State) → now b ≡ after (told read a) → told (record { ty = made.Str; fork = None }) b ≡ plainly made.Str (after (told read a))
unfolding told now
kind_read read a b is = λ i. plainly made.Str (is i)

pub sign_read : (w : World) (f t : ℕ) (read : Read) (u : FlowType) (a b c : State) → now b ≡ after (told read a) → u ≡ read.ty → c.facts ≡ b.facts → notes_view c.notes ≡ number_asked w f t u (notes_view b.notes) →
    told (record { ty = made.Number; fork = None }) c ≡ signed_out w f t (told read a)
unfolding told now
sign_read w f t read u a b c behind own kept asks = λ i. record {
  ty = made.Number;
  yes = (ap known kept ∙ ap (λ (n : Now). n.facts) behind) i;
  no = None;
  notes = (asks ∙ (λ j. number_asked w f t (own j) (behind j).notes)) i;
}

-- ---- properties, indices and calls

pub member_read : (w : World) (f at t : ℕ) (key : Bytes) (place : Option Place) (object : Read) (u : FlowType) (g : Given) (r : Read) (a b c d : State) → now b ≡ after (told object a) → u ≡ object.ty →
    IsGiven g (map (property_read w (part_at f at u (suc at) t key) key) (levels w u)) → c.facts ≡ b.facts → notes_view c.notes ≡ add_faults g.faults (notes_view b.notes) →
    told r d ≡ maybe_place_out w place g.ty (now c) → told r d ≡ property_out w f at t key place (told object a)
unfolding told now
member_read w f at t key place object u g r a b c d behind same given kept faults is =
    let steps : FlowType → List Step = λ ty. map (property_read w (part_at f at ty (suc at) t key) key) (levels w ty) in
    let here : now c ≡ change_notes (add_faults (steps_faults (steps object.ty))) (after (told object a)) =
    λ i. record { facts = (ap known kept ∙ ap (λ (n : Now). n.facts) behind) i; notes = (faults ∙ (λ j. add_faults ((given.1 ∙ ap (λ ty. steps_faults (steps ty)) same) j) (behind j).notes)) i } in
    is ∙ (λ i. maybe_place_out w place ((given.0 ∙ ap (λ ty. steps_type (steps ty)) same) i) (here i))

pub element_read : (w : World) (f at t : ℕ) (o : Out) (object u : FlowType) (index : Read) (g : Given) (a b c : State) → o.ty ≡ object → now b ≡ after (told index a) → u ≡ index.ty →
    IsGiven g (map (index_read w (part_at f at object (suc at) (t - 1) (brief u)) u) (levels w object)) → c.facts ≡ b.facts → notes_view c.notes ≡ add_faults g.faults (notes_view b.notes) →
    told (record { ty = g.ty; fork = None }) c ≡ index_out w f at t o (told index a)
unfolding told now
element_read w f at t o object u index g a b c own behind same given kept faults =
    let steps : FlowType → FlowType → List Step = λ of ty. map (index_read w (part_at f at of (suc at) (t - 1) (brief ty)) ty) (levels w of) in
    λ i. record {
      ty = (given.0 ∙ (λ j. steps_type (steps (sym own j) (same j)))) i;
      yes = (ap known kept ∙ ap (λ (n : Now). n.facts) behind) i;
      no = None;
      notes = (faults ∙ (λ j. add_faults ((given.1 ∙ (λ k. steps_faults (steps (sym own k) (same k)))) j) (behind j).notes)) i;
    }

pub called_read : (w : World) (f at t : ℕ) (o : Out) (callee : FlowType) (args : List Arg) (g : Given) (a c d : State) → o.ty ≡ callee → IsCalled w (call_at f at t callee args) g → c.facts ≡ a.facts →
    notes_view c.notes ≡ add_faults g.faults (notes_view a.notes) → now d ≡ change_facts (live without_properties) (now c) →
    told (record { ty = g.ty; fork = None }) d ≡ call_out w f at t o (record { args = args; now = now a })
unfolding told now
called_read w f at t o callee args g a c d own given kept faults forgets = λ i. record {
  ty = (given.0 ∙ (λ j. steps_type (steps_called w (call_at f at t (sym own j) args)))) i;
  yes = (ap (λ (n : Now). n.facts) forgets ∙ ap (λ (facts : Facts). live without_properties (known facts)) kept) i;
  no = None;
  notes = (ap (λ (n : Now). n.notes) forgets ∙ faults ∙ (λ j. add_faults ((given.1 ∙ (λ k. faults_called w (call_at f at t (sym own k) args))) j) (notes_view a.notes))) i;
}
