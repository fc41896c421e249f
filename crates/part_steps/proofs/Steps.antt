-- One member more.
use Rattle.std.proofs.Common.{◌≡◌, ℕ, suc, subst, ◌+◌, ◌<◌, ◌≤◌, List, [], ◌∷◌, ◌++◌, map, length, take, get_or, Option, Some, None, refl, sym, ap, ◌∙◌, append-nil, arith}
use Rattle.std.proofs.lemmas.List.{map-append, take_all, take_more}
use Rattle.std.proofs.lemmas.List.Elements.{filter_map-append}
use Rattle.std.proofs.lemmas.Grind.{flat_map-append, fold-append}
use Rattle.std.specs.Borrow.{Bor}
use Rattle.std.specs.List.{filter_map}
use Rattle.std.specs.Option.{option_to_list}
use Rattle.std.specs.Prelude.{Result, IfOk}
use Rattle.check_values.specs.Rows.{Bytes}
use Rattle.check_values.specs.declared.codes.Code.{Code}
use Rattle.check_values.specs.declared.faults.Fault.{Fault}
use Rattle.type_values.specs.declared.types.FlowType.{FlowType, out-FlowType}
use Rattle.flow_facts.specs.Cells.{Level}
use Rattle.flow_facts.specs.declared.place.Place.{Place}
use Rattle.scopes.specs.Rows.{kind_view}
use Rattle.scopes.specs.View.{Tells}
use Rattle.scopes.specs.declared.binding.Variable.{Variable}
use Rattle.scopes.specs.declared.binding.Meaning.{Meaning}
use Rattle.scopes.specs.declared.binding.Meaning.TheVariants as meaning
use Rattle.alias_table.specs.Members.{seen}
use Rattle.typing.specs.States.{World, Notes, asked}
use Rattle.typing.specs.Names as typing
use Rattle.typing.specs.Members.{Part, Step, levels, steps_type, steps_faults, property_read, property_written, target_of_prop}
use Rattle.typing.specs.Statements.{Goal, Target, property_target, variable_goal, variable_goal_of}
use Rattle.check_world.specs.View.{levels_seen}
use Rattle.check_world.proofs.Levels.{levels_more}
use Rattle.member_steps.specs.View.{summed}
use Rattle.part_steps.specs.Members.{part_at}
use Rattle.part_steps.specs.Goals.{goal_of_property, asked_all, asked_every}
use Rattle.part_steps.specs.View.{IsGiven, goal_view}
use Rattle.part_steps.specs.declared.goals.Goal as own
use Rattle.part_steps.specs.declared.members.Given.{Given}
use Rattle.type_terms.specs.Join.{join_of}
use Rattle.flow_values.specs.declared.memory.NoMemory.{NoMemory}

one_more : {X : Type 0} (xs : List X) (i : ℕ) (x : X) → i < length xs → x ≡ get_or xs i x → take (i + 1) xs ≡ take i xs ++ x ∷ []
one_more {X} xs i x within at = take_more xs i x within ∙ ap (λ (y : X). take i xs ++ y ∷ []) (sym at)

-- what each of the members gives
map_more : {B : Type 0} (f : Level → B) (xs : List (Bor FlowType)) (i : ℕ) (x : Bor FlowType) → i < length xs → x ≡ get_or xs i x →
    map f (levels_seen (take (i + 1) xs)) ≡ map f (levels_seen (take i xs)) ++ f (out-FlowType x.now) ∷ []
map_more f xs i x within at = ap (map f) (levels_more xs i x within at) ∙ map-append f (levels_seen (take i xs)) (out-FlowType x.now ∷ [])

pub steps_more : (f : Level → Step) (xs : List (Bor FlowType)) (i : ℕ) (x : Bor FlowType) (step : Step) (before after : List FlowType × List Fault) → i < length xs → x ≡ get_or xs i x →
    step ≡ f (out-FlowType x.now) → before ≡ summed (map f (levels_seen (take i xs))) → ((steps : List Step) → before ≡ summed steps → after ≡ summed (steps ++ step ∷ [])) →
    after ≡ summed (map f (levels_seen (take (i + 1) xs)))
steps_more f xs i x step before after within at is so_far adds =
    adds (map f (levels_seen (take i xs))) so_far ∙ ap (λ (s : Step). summed (map f (levels_seen (take i xs)) ++ s ∷ [])) is ∙ ap summed (sym (map_more f xs i x within at))

-- their faults
pub faults_more : (f : Level → Step) (xs : List (Bor FlowType)) (i : ℕ) (x : Bor FlowType) (step : Step) (before after : List Fault) → i < length xs → x ≡ get_or xs i x →
    step ≡ f (out-FlowType x.now) → before ≡ steps_faults (map f (levels_seen (take i xs))) → after ≡ before ++ step.1 → after ≡ steps_faults (map f (levels_seen (take (i + 1) xs)))
faults_more f xs i x step before after within at is so_far adds =
    adds ∙ ap (λ (l : List Fault). l ++ step.1) so_far ∙ ap (λ (s : Step). steps_faults (map f (levels_seen (take i xs))) ++ s.1) is
    ∙ ap (λ (l : List Fault). steps_faults (map f (levels_seen (take i xs))) ++ l) (sym (append-nil (f (out-FlowType x.now)).1))
    ∙ sym (flat_map-append (λ (s : Step). s.1) (map f (levels_seen (take i xs))) (f (out-FlowType x.now) ∷ [])) ∙ ap steps_faults (sym (map_more f xs i x within at))

-- what they take
pub wants_more : (f : Level → Option FlowType) (xs : List (Bor FlowType)) (i : ℕ) (x : Bor FlowType) (want : Option FlowType) (before after : List FlowType) → i < length xs → x ≡ get_or xs i x →
    want ≡ f (out-FlowType x.now) → before ≡ filter_map f (levels_seen (take i xs)) → after ≡ before ++ option_to_list want → after ≡ filter_map f (levels_seen (take (i + 1) xs))
wants_more f xs i x want before after within at is so_far adds =
    adds ∙ ap (λ (l : List FlowType). l ++ option_to_list want) so_far ∙ ap (λ (o : Option FlowType). filter_map f (levels_seen (take i xs)) ++ option_to_list o) is
    ∙ ap (λ (l : List FlowType). filter_map f (levels_seen (take i xs)) ++ l) (one (f (out-FlowType x.now)) refl)
    ∙ sym (filter_map-append f (levels_seen (take i xs)) (out-FlowType x.now ∷ [])) ∙ ap (filter_map f) (sym (levels_more xs i x within at))
  where
    one : (o : Option FlowType) → f (out-FlowType x.now) ≡ o → option_to_list o ≡ filter_map f (out-FlowType x.now ∷ [])
    one None e = cc
    one (Some t) e = cc

-- ---- all members

pub levels_all : (xs : List (Bor FlowType)) (i : ℕ) (members : List FlowType) → length xs ≤ i → seen xs ≡ members → levels_seen (take i xs) ≡ map (λ m. out-FlowType m) members
levels_all xs i members long are = ap levels_seen (take_all i xs long) ∙ ap (map (λ m. out-FlowType m)) are

pub all_steps : (f : Level → Step) (xs : List (Bor FlowType)) (i : ℕ) (s : List FlowType × List Fault) → length xs ≤ i → s ≡ summed (map f (levels_seen (take i xs))) → s ≡ summed (map f (levels_seen xs))
all_steps f xs i s long is = is ∙ ap (λ (l : List (Bor FlowType)). summed (map f (levels_seen l))) (take_all i xs long)

pub all_faults : (f : Level → Step) (xs : List (Bor FlowType)) (i : ℕ) (faults : List Fault) → length xs ≤ i → faults ≡ steps_faults (map f (levels_seen (take i xs))) → faults ≡ steps_faults (map f (levels_seen xs))
all_faults f xs i faults long is = is ∙ ap (λ (l : List (Bor FlowType)). steps_faults (map f (levels_seen l))) (take_all i xs long)

pub all_wants : (f : Level → Option FlowType) (xs : List (Bor FlowType)) (i : ℕ) (wants : List FlowType) → length xs ≤ i → wants ≡ filter_map f (levels_seen (take i xs)) → wants ≡ filter_map f (levels_seen xs)
all_wants f xs i wants long is = is ∙ ap (λ (l : List (Bor FlowType)). filter_map f (levels_seen l)) (take_all i xs long)

-- what all members give of a part that begins at a token
pub given_all : (part : ℕ → Part) (read : Part → Level → Step) (n m : ℕ) (xs : List (Bor FlowType)) (members : List FlowType) (r : Result Given NoMemory) (s : List FlowType × List Fault) → n ≡ m → seen xs ≡ members →
    s ≡ summed (map (read (part n)) (levels_seen xs)) → IfOk r (λ g. (g.ty ≡ join_of s.0) × (g.faults ≡ s.1)) → IfOk r (λ g. IsGiven g (map (read (part m)) (map (λ t. out-FlowType t) members)))
given_all part read n m xs members r s token are is given =
    subst (λ (x : List FlowType × List Fault). IfOk r (λ g. (g.ty ≡ join_of x.0) × (g.faults ≡ x.1)))
    (is ∙ (λ i. summed (map (read (part (token i))) (map (λ t. out-FlowType t) (are i)))))
    given

-- what they make of a property as a target
pub goal_all : (w : World) (f at t n : ℕ) (key : Bytes) (place : Option Place) (ty : FlowType) (xs : List (Bor FlowType)) (wants : List FlowType) (faults : List Fault) (target : Target) (declared : FlowType)
    (s : List FlowType × List Fault) → n ≡ suc at → seen xs ≡ w.members ty → wants ≡ filter_map (target_of_prop key) (levels_seen xs) →
    faults ≡ steps_faults (map (property_written w (part_at f at ty n t key) key) (levels_seen xs)) → s ≡ summed (map (property_read w (part_at f at ty n t key) key) (levels_seen xs)) →
    declared ≡ join_of s.0 → target ≡ property_target key declared place → ◌≡◌ {A = Goal} (record { wants = wants; faults = faults; target = target }) (goal_of_property w f at t key place ty)
goal_all w f at t n key place ty xs wants faults target declared s token are wants_are faults_are steps_are type_is target_is =
    let own_wants : wants ≡ filter_map (target_of_prop key) (levels w ty) = wants_are ∙ (λ i. filter_map (target_of_prop key) (map (λ m. out-FlowType m) (are i))) in
    let own_faults : faults ≡ steps_faults (map (property_written w (part_at f at ty (suc at) t key) key) (levels w ty)) =
    faults_are ∙ (λ i. steps_faults (map (property_written w (part_at f at ty (token i) t key) key) (map (λ m. out-FlowType m) (are i)))) in
    let own_type : declared ≡ steps_type (map (property_read w (part_at f at ty (suc at) t key) key) (levels w ty)) =
    type_is ∙ ap (λ (x : List FlowType × List Fault). join_of x.0) (steps_are ∙ (λ i. summed (map (property_read w (part_at f at ty (token i) t key) key) (map (λ m. out-FlowType m) (are i))))) in
    λ i. record { wants = own_wants i; faults = own_faults i; target = (target_is ∙ ap (λ (d : FlowType). property_target key d place) own_type) i }

-- ---- a variable as a target

-- a name that means no variable
pub means_none : (m : Meaning) (code : Code) (told : typing.Meaning) → m ≡ meaning.NoVariable code → Tells m told → told ≡ typing.no_variable code
means_none m code (typing.variable_of b t) is tells = absurd (subst (λ (x : Meaning). Tells x (typing.variable_of b t)) is tells)
means_none m code (typing.no_variable other) is tells = ap typing.no_variable (sym (subst (λ (x : Meaning). Tells x (typing.no_variable other)) is tells))

-- one that means a variable
pub means_variable : (w : World) (f : ℕ) (name : Bytes) (m : Meaning) (v : Variable) (t : FlowType) (told : typing.Meaning) (r : Result own.Goal NoMemory) → m ≡ meaning.Variable v t → Tells m told →
    ((b : typing.Binding) → v.number ≡ b.number → kind_view v.kind ≡ b.kind → IfOk r (λ g. goal_view g ≡ variable_goal_of w f name b t)) → IfOk r (λ g. goal_view g ≡ variable_goal w f name told)
means_variable w f name m v t (typing.no_variable code) r is tells each = absurd (subst (λ (x : Meaning). Tells x (typing.no_variable code)) is tells)
means_variable w f name m v t (typing.variable_of b u) r is tells each =
    let same : Tells (meaning.Variable v t) (typing.variable_of b u) = subst (λ (x : Meaning). Tells x (typing.variable_of b u)) is tells in
    subst (λ (x : FlowType). IfOk r (λ g. goal_view g ≡ variable_goal_of w f name b x)) same.2 (each b same.0 same.1)

-- ---- a value that is asked to be below several types

pub asked_more : (w : World) (f t : ℕ) (ty : FlowType) (wants : List FlowType) (i : ℕ) (want : FlowType) (start before after : Notes) → i < length wants → want ≡ get_or wants i want →
    after ≡ asked w f t want ty before → before ≡ asked_all w f t (take i wants) ty start → after ≡ asked_all w f t (take (i + 1) wants) ty start
asked_more w f t ty wants i want start before after within at asks so_far =
    asks ∙ ap (asked w f t want ty) so_far ∙ sym (fold-append (λ n x. asked w f t x ty n) start (take i wants) (want ∷ []))
    ∙ ap (λ (l : List FlowType). asked_all w f t l ty start) (sym (one_more wants i want within at))

-- the one type was asked already
pub asked_once : (w : World) (f t : ℕ) (ty : FlowType) (wants : List FlowType) (notes : Notes) → length wants ≡ 1 → notes ≡ asked_every w f t wants ty notes
asked_once w f t ty [] notes one = absurd (omega arith)
asked_once w f t ty (want ∷ []) notes one = refl
asked_once w f t ty (want ∷ other ∷ wants) notes one = absurd (omega arith)

pub asked_each_one : (w : World) (f t : ℕ) (ty : FlowType) (wants : List FlowType) (i : ℕ) (start after : Notes) → (length wants ≡ 1 → ⊥) → length wants ≤ i →
    after ≡ asked_all w f t (take i wants) ty start → after ≡ asked_every w f t wants ty start
asked_each_one w f t ty wants i start after several long is =
    is ∙ ap (λ (l : List FlowType). asked_all w f t l ty start) (take_all i wants long) ∙ go wants several
  where
    go : (l : List FlowType) → (length l ≡ 1 → ⊥) → asked_all w f t l ty start ≡ asked_every w f t l ty start
    go [] more = refl
    go (want ∷ []) more = absurd (more refl)
    go (want ∷ other ∷ l) more = refl
