-- Which binding a name finds, where names were put in front and declarations read.
use Rattle.std.proofs.Common.{◌≡◌, ◌↔◌, ℕ, suc, ◌≤◌, ◌<◌, ◌||◌, Bool, true, false, List, [], ◌∷◌, ◌++◌, length, map, Option, Some, None, cond, bytes_eq, refl, sym, ap, ◌∙◌, subst, arith}
use Rattle.std.specs.Prelude.{◌==◌, nat_lt}
use Rattle.std.specs.Option.{is_some}
use Rattle.std.proofs.lemmas.List.{length-append}
use Rattle.std.proofs.lemmas.Bool.{ltb-true, lt-ltb, or_left, or_right}
use Rattle.check_values.specs.Rows.{Bytes}
use Rattle.check_values.specs.declared.codes.Code.TheVariants.{ReferenceBeforeDeclaration, TypeAsValue, CannotResolveName}
use Rattle.type_values.specs.declared.types.FlowType.{FlowType}
use Rattle.typing.specs.Names.{Kind, constant, changing, shared, type_name, Binding, Scope, Meaning, variable_of, no_variable, binding_of, binds, is_usable, declared_meaning, meaning_by_kind, meaning_of_binding, meaning_of, binding_read, declares_type}
use Rattle.binding_law.proofs.Changing.{never}
use Rattle.binding_law.specs.Scopes.{place_of, FindsSame}

-- one binding, and the same perhaps once its declaration was read
pub record Later (b c : Binding) : Type 0 where
  pub number : c.number ≡ b.number
  pub kind : c.kind ≡ b.kind
  pub depth : c.depth ≡ b.depth
  pub is_read : b.is_read ≡ true → c.is_read ≡ true
  pub declared : (t : FlowType) → b.declared ≡ Some t → (u : FlowType) × (c.declared ≡ Some u)

abbrev pub SameBinding : Option Binding → Option Binding → Type 0
SameBinding None None = Unit {0}
SameBinding (Some b) (Some c) = Later b c
SameBinding a b = ⊥

-- what a name finds in an outer scope and in an inner one, between which it is bound or not
pub record Enters (name : Bytes) (bound : Bool) (outer inner : Scope) : Type 0 where
  pub longer : length outer.names ≤ length inner.names
  pub deeper : outer.depth ≤ inner.depth
  pub free : bound ≡ false → FindsSame name outer inner × SameBinding (binding_of outer.names name) (binding_of inner.names name)
  pub own : bound ≡ true → (k : ℕ) × (place_of inner.names name ≡ Some k) × (length outer.names ≤ k)

itself : (b : Binding) → Later b b
itself b = record { number = refl; kind = refl; depth = refl; is_read = λ is. is; declared = λ t is. (t, is) }

same_itself : (o : Option Binding) → SameBinding o o
same_itself None = tt
same_itself (Some b) = itself b

later : (a b c : Binding) → Later a b → Later b c → Later a c
later a b c first second = record {
  number = second.number ∙ first.number;
  kind = second.kind ∙ first.kind;
  depth = second.depth ∙ first.depth;
  is_read = λ is. second.is_read (first.is_read is);
  declared = λ t is. (let found = first.declared t is in second.declared found.0 found.1);
}

same_later : (a b c : Option Binding) → SameBinding a b → SameBinding b c → SameBinding a c
same_later None None None first second = tt
same_later None None (Some z) first second = absurd second
same_later None (Some y) c first second = absurd first
same_later (Some x) None c first second = absurd first
same_later (Some x) (Some y) None first second = absurd second
same_later (Some x) (Some y) (Some z) first second = later x y z first second

pub stays : (name : Bytes) (scope : Scope) → Enters name false scope scope
stays name scope = record { longer = omega arith; deeper = omega arith; free = λ is. (refl, same_itself (binding_of scope.names name)); own = λ is. never is }

pub goes_on : (name : Bytes) (x y : Bool) (a b c : Scope) → Enters name x a b → Enters name y b c → Enters name (x || y) a c
goes_on name true true a b c first second = record {
  longer = let l = first.longer in let m = second.longer in omega arith;
  deeper = let l = first.deeper in let m = second.deeper in omega arith;
  free = λ is. never (sym is);
  own = λ is. (let found = second.own refl in let l = first.longer in let m = found.2 in (found.0, found.1, omega arith));
}
goes_on name true false a b c first second = record {
  longer = let l = first.longer in let m = second.longer in omega arith;
  deeper = let l = first.deeper in let m = second.deeper in omega arith;
  free = λ is. never (sym is);
  own = λ is. (let found = first.own refl in (found.0, (second.free refl).0 ∙ found.1, found.2));
}
goes_on name false true a b c first second = record {
  longer = let l = first.longer in let m = second.longer in omega arith;
  deeper = let l = first.deeper in let m = second.deeper in omega arith;
  free = λ is. never (sym is);
  own = λ is. (let found = second.own refl in let l = first.longer in let m = found.2 in (found.0, found.1, omega arith));
}
goes_on name false false a b c first second = record {
  longer = let l = first.longer in let m = second.longer in omega arith;
  deeper = let l = first.deeper in let m = second.deeper in omega arith;
  free = λ is. ((second.free refl).0 ∙ (first.free refl).0, same_later (binding_of a.names name) (binding_of b.names name) (binding_of c.names name) (first.free refl).1 (second.free refl).1);
  own = λ is. never is;
}

-- ---- names in front

pub binding_behind : (own names : List Binding) (name : Bytes) → binds own name ≡ false → binding_of (own ++ names) name ≡ binding_of names name
binding_behind [] names name free = refl
binding_behind (b ∷ own) names name free = go (bytes_eq b.name name) refl free (binding_behind own names name)
  where
    go : (same : Bool) → bytes_eq b.name name ≡ same → binds (b ∷ own) name ≡ false → (binds own name ≡ false → binding_of (own ++ names) name ≡ binding_of names name) → cond same (Some b) (binding_of (own ++ names) name) ≡ binding_of names name
    go true at is rest = never (sym is ∙ ap (λ (c : Bool). is_some (cond c (Some b) (binding_of own name))) at)
    go false at is rest = rest (sym (ap (λ (c : Bool). is_some (cond c (Some b) (binding_of own name))) at) ∙ is)

pub binding_front : (own names : List Binding) (name : Bytes) → binds own name ≡ true → binding_of (own ++ names) name ≡ binding_of own name
binding_front [] names name bound = never bound
binding_front (b ∷ own) names name bound = go (bytes_eq b.name name) bound (binding_front own names name)
  where
    go : (same : Bool) → is_some (cond same (Some b) (binding_of own name)) ≡ true → (binds own name ≡ true → binding_of (own ++ names) name ≡ binding_of own name) → cond same (Some b) (binding_of (own ++ names) name) ≡ cond same (Some b) (binding_of own name)
    go true is rest = refl
    go false is rest = rest is

place_behind : (own names : List Binding) (name : Bytes) → binds own name ≡ false → place_of (own ++ names) name ≡ place_of names name
place_behind [] names name free = refl
place_behind (b ∷ own) names name free = go (bytes_eq b.name name) refl free (place_behind own names name)
  where
    go : (same : Bool) → bytes_eq b.name name ≡ same → binds (b ∷ own) name ≡ false → (binds own name ≡ false → place_of (own ++ names) name ≡ place_of names name) → cond same (Some (length (own ++ names))) (place_of (own ++ names) name) ≡ place_of names name
    go true at is rest = never (sym is ∙ ap (λ (c : Bool). is_some (cond c (Some b) (binding_of own name))) at)
    go false at is rest = rest (sym (ap (λ (c : Bool). is_some (cond c (Some b) (binding_of own name))) at) ∙ is)

place_front : (own names : List Binding) (name : Bytes) → binds own name ≡ true → (k : ℕ) × (place_of (own ++ names) name ≡ Some k) × (length names ≤ k)
place_front [] names name bound = never bound
place_front (b ∷ own) names name bound = go (bytes_eq b.name name) refl bound (place_front own names name)
  where
    go : (same : Bool) → bytes_eq b.name name ≡ same → binds (b ∷ own) name ≡ true → (binds own name ≡ true → (k : ℕ) × (place_of (own ++ names) name ≡ Some k) × (length names ≤ k)) →
        (k : ℕ) × (cond same (Some (length (own ++ names))) (place_of (own ++ names) name) ≡ Some k) × (length names ≤ k)
    go true at is rest = (length (own ++ names), refl, omega (arith, length-append own names))
    go false at is rest = rest (sym (ap (λ (c : Bool). is_some (cond c (Some b) (binding_of own name))) at) ∙ is)

pub in_front : (name : Bytes) (own : List Binding) (outer inner : Scope) → inner.names ≡ own ++ outer.names → outer.depth ≤ inner.depth → Enters name (binds own name) outer inner
in_front name own outer inner is deep = record {
  longer = omega (arith, ap (λ (l : List Binding). length l) is, length-append own outer.names);
  deeper = deep;
  free = λ free. (
    ap (λ (l : List Binding). place_of l name) is ∙ place_behind own outer.names name free,
    subst (SameBinding (binding_of outer.names name)) (sym (ap (λ (l : List Binding). binding_of l name) is ∙ binding_behind own outer.names name free)) (same_itself (binding_of outer.names name)),
  );
  own = λ bound. (let found = place_front own outer.names name bound in (found.0, ap (λ (l : List Binding). place_of l name) is ∙ found.1, found.2));
}

-- ---- a declaration that was read

read_later : (number : ℕ) (t : FlowType) (b : Binding) → Later b (binding_read number t b)
read_later number t b = go (b.number == number)
  where
    go : (same : Bool) → Later b (cond same (record b { is_read = true; declared = Some t }) b)
    go true = record { number = refl; kind = refl; depth = refl; is_read = λ is. refl; declared = λ u is. (t, refl) }
    go false = itself b

read_name : (number : ℕ) (t : FlowType) (b : Binding) → (binding_read number t b).name ≡ b.name
read_name number t b = go (b.number == number)
  where
    go : (same : Bool) → (cond same (record b { is_read = true; declared = Some t }) b).name ≡ b.name
    go true = refl
    go false = refl

read_length : (number : ℕ) (t : FlowType) (names : List Binding) → length (map (binding_read number t) names) ≡ length names
read_length number t [] = refl
read_length number t (b ∷ names) = ap suc (read_length number t names)

read_place : (number : ℕ) (t : FlowType) (names : List Binding) (name : Bytes) → place_of (map (binding_read number t) names) name ≡ place_of names name
read_place number t [] name = refl
read_place number t (b ∷ names) name =
    ap (λ (n : Bytes). cond (bytes_eq n name) (Some (length (map (binding_read number t) names))) (place_of (map (binding_read number t) names) name)) (read_name number t b)
    ∙ ap (λ (k : ℕ). cond (bytes_eq b.name name) (Some k) (place_of (map (binding_read number t) names) name)) (read_length number t names)
    ∙ ap (λ (o : Option ℕ). cond (bytes_eq b.name name) (Some (length names)) o) (read_place number t names name)

read_binding : (number : ℕ) (t : FlowType) (names : List Binding) (name : Bytes) → SameBinding (binding_of names name) (binding_of (map (binding_read number t) names) name)
read_binding number t [] name = tt
read_binding number t (b ∷ names) name =
    subst (λ (n : Bytes). SameBinding (binding_of (b ∷ names) name) (cond (bytes_eq n name) (Some (binding_read number t b)) (binding_of (map (binding_read number t) names) name))) (sym (read_name number t b))
    (go (bytes_eq b.name name) (read_binding number t names name))
  where
    go : (same : Bool) → SameBinding (binding_of names name) (binding_of (map (binding_read number t) names) name) →
        SameBinding (cond same (Some b) (binding_of names name)) (cond same (Some (binding_read number t b)) (binding_of (map (binding_read number t) names) name))
    go true rest = read_later number t b
    go false rest = rest

pub declared_stays : (name : Bytes) (number : ℕ) (t : FlowType) (scope : Scope) → Enters name false scope (declares_type number t scope)
declared_stays name number t scope = record {
  longer = omega (arith, read_length number t scope.names);
  deeper = omega arith;
  free = λ is. (read_place number t scope.names name, read_binding number t scope.names name);
  own = λ is. never is;
}

-- ---- what is found

place_within : (names : List Binding) (name : Bytes) (k : ℕ) → place_of names name ≡ Some k → k < length names
place_within [] name k is = absurd (let none : None ≡ Some k = is in let wrong : ⊥ = cc in wrong)
place_within (b ∷ names) name k is = go (bytes_eq b.name name) is (place_within names name k)
  where
    go : (same : Bool) → cond same (Some (length names)) (place_of names name) ≡ Some k → (place_of names name ≡ Some k → k < length names) → k < suc (length names)
    go true at rest = let e : length names ≡ k = cc in omega arith
    go false at rest = let l = rest at in omega arith

pub same_where_free : (name : Bytes) (bound : Bool) (outer inner : Scope) → Enters name bound outer inner → (bound ≡ false) ↔ FindsSame name outer inner
same_where_free name false outer inner enters = (λ is. (enters.free is).0, λ same. refl)
same_where_free name true outer inner enters = (
  λ is. never (sym is),
  λ same.
      (let found = enters.own refl in let l = found.2 in let m = place_within outer.names name found.0 (sym same ∙ found.1) in absurd (omega arith)),
)

-- ---- the variable that is meant

is_there : {A : Type 0} (code : _) (b : Binding) (t : FlowType) → no_variable code ≡ variable_of b t → A
is_there code b t is = absurd (let wrong : ⊥ = cc in wrong)

usable_later : (d e : ℕ) (b c : Binding) → d ≤ e → Later b c → is_usable d b ≡ true → is_usable e c ≡ true
usable_later d e b c deep l is = go b.is_read refl is
  where
    go : (r : Bool) → b.is_read ≡ r → (r || nat_lt b.depth d) ≡ true → is_usable e c ≡ true
    go true at usable = or_left c.is_read (nat_lt c.depth e) (l.is_read at)
    go false at usable =
        let below : b.depth < d = ltb-true b.depth d usable in
        let same = l.depth in
        let lower : c.depth < e = omega arith in
        or_right c.is_read (nat_lt c.depth e) (lt-ltb c.depth e lower)

abbrev variable_number : Meaning → ℕ → ℕ
variable_number (variable_of b t) n = b.number
variable_number (no_variable code) n = n

-- the variable of this number is meant
abbrev MeansNumber : ℕ → Meaning → Type 0
MeansNumber number m = (c : Binding) × (u : FlowType) × (m ≡ variable_of c u) × (c.number ≡ number)

declared_later : (d e : ℕ) (x y b : Binding) (t : FlowType) → d ≤ e → Later x y → declared_meaning d x x.declared ≡ variable_of b t → MeansNumber b.number (declared_meaning e y y.declared)
declared_later d e x y b t deep l is = go x.declared refl is
  where
    last : (v u : FlowType) (usable : Bool) → is_usable d x ≡ usable → y.declared ≡ Some u → cond usable (variable_of x v) (no_variable ReferenceBeforeDeclaration) ≡ variable_of b t → MeansNumber b.number (declared_meaning e y y.declared)
    last v u true can known means = (
      y,
      u,
      ap (declared_meaning e y) known ∙ ap (λ (c : Bool). cond c (variable_of y u) (no_variable ReferenceBeforeDeclaration)) (usable_later d e x y deep l can),
      l.number ∙ ap (λ (m : Meaning). variable_number m 0) means,
    )
    last v u false can known means = is_there ReferenceBeforeDeclaration b t means

    go : (o : Option FlowType) → x.declared ≡ o → declared_meaning d x o ≡ variable_of b t → MeansNumber b.number (declared_meaning e y y.declared)
    go None at means = is_there ReferenceBeforeDeclaration b t means
    go (Some v) at means = (let found = l.declared v at in last v found.0 (is_usable d x) refl found.1 means)

kind_later : (d e : ℕ) (x y b : Binding) (t : FlowType) → d ≤ e → Later x y → meaning_by_kind x.kind d x ≡ variable_of b t → MeansNumber b.number (meaning_by_kind y.kind e y)
kind_later d e x y b t deep l is = subst (λ (k : Kind). MeansNumber b.number (meaning_by_kind k e y)) (sym l.kind) (go x.kind is)
  where
    go : (k : Kind) → meaning_by_kind k d x ≡ variable_of b t → MeansNumber b.number (meaning_by_kind k e y)
    go constant means = declared_later d e x y b t deep l means
    go changing means = declared_later d e x y b t deep l means
    go shared means = declared_later d e x y b t deep l means
    go type_name means = is_there TypeAsValue b t means

binding_later : (d e : ℕ) (x y : Option Binding) (b : Binding) (t : FlowType) → d ≤ e → SameBinding x y → meaning_of_binding d x ≡ variable_of b t → MeansNumber b.number (meaning_of_binding e y)
binding_later d e None y b t deep same means = is_there CannotResolveName b t means
binding_later d e (Some x) None b t deep same means = absurd same
binding_later d e (Some x) (Some y) b t deep same means = kind_later d e x y b t deep same means

pub means_later : (name : Bytes) (bound : Bool) (outer inner : Scope) (b : Binding) (t : FlowType) → Enters name bound outer inner → FindsSame name outer inner → meaning_of outer name ≡ variable_of b t →
    (c : Binding) × (u : FlowType) × (meaning_of inner name ≡ variable_of c u) × (c.number ≡ b.number)
means_later name bound outer inner b t enters same means =
    binding_later outer.depth inner.depth (binding_of outer.names name) (binding_of inner.names name) b t enters.deeper
    (enters.free ((same_where_free name bound outer inner enters).1 same)).1 means
