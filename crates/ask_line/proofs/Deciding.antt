-- A value asks something, or it asks nothing.
use Rattle.std.proofs.Common.{◌≡◌, ℕ, ◌≤◌, List, [], ◌∷◌, length, Bool, false, true, Option, Some, None, refl, sym, ◌∙◌, subst, inl, inr, ◌⊎◌, arith}
use Rattle.std.specs.Prelude.{codes, IsTrue, IsUtf8, nat_eq, bytes_eq}
use Rattle.std.specs.List.{AllByRecursion, ends_with}
use Rattle.std.specs.Str.{is_utf8}
use Rattle.std.proofs.lemmas.Bool.{cases_lt, false≢true}
use Rattle.std.proofs.lemmas.List.Elements.{All-from_recursion, recursion_from_All}
use Rattle.std.proofs.lemmas.Option.{none-some, same_Some}
use Rattle.std.proofs.lemmas.Slice.Eq.{bytes_eq-Decides}
use Rattle.std.proofs.lemmas.Str.{IsUtf8-from_is_utf8, is_utf8-from_IsUtf8}
use Rattle.serde_json.specs.Data.{Data}
use Rattle.flow_values.specs.Path.{Bytes, JS, IsNormalPath}
use Rattle.flow_values.specs.PathForm.{cut, IsNamed, HasPathForm}
use Rattle.flow_values.proofs.Parts.{is_normal, has_form}
use Rattle.asks.specs.declared.ask.Ask.{Ask}
use Rattle.asks.specs.declared.ask.Ask.TheVariants as ask
use Rattle.ask_line.specs.declared.kinds.Kind.{Kind}
use Rattle.ask_line.specs.declared.kinds.Kind.TheVariants.{Status, Errors, CheckContents, TypeAtPos, FindModule, Ls, Importers, Signature}
use Rattle.ask_line.specs.Asking.{text_at, whole_at, HasPath, HasParts, Asks, kind_in}
use Rattle.ask_line.proofs.Words.{has_word, asks_nothing, asks_no_other}

-- ---- facts that hold or don't

abbrev pub OrNot : Type 0 → Type 0
OrNot P = P ⊎ (P → ⊥)

pub both : {P Q : Type 0} → OrNot P → OrNot Q → OrNot (P × Q)
both (inl p) (inl q) = inl (p, q)
both (inl p) (inr never) = inr (λ pq. never pq.1)
both (inr never) q = inr (λ pq. never pq.0)

pub alike : {P Q : Type 0} → (P → Q) → (Q → P) → OrNot P → OrNot Q
alike to from (inl p) = inl (to p)
alike to from (inr never) = inr (λ q. never (from q))

pub opposite : {P : Type 0} → OrNot P → OrNot (P → ⊥)
opposite (inl p) = inr (λ never. never p)
opposite (inr never) = inl never

pub each_or_not : {X : Type 0} (P : X → Type 0) → ((x : X) → OrNot (P x)) → (xs : List X) → OrNot (AllByRecursion P xs)
each_or_not P or_not [] = inl tt
each_or_not P or_not (x ∷ xs) = both (or_not x) (each_or_not P or_not xs)

pub true_or_not : (b : Bool) → OrNot (IsTrue b)
true_or_not true = inl refl
true_or_not false = inr (λ is. false≢true is)

pub within_or_not : (a b : ℕ) → OrNot (a ≤ b)
within_or_not a b = elim (cases_lt b a) [
  | inl above ↦ inr (λ below. omega arith)
  | inr below ↦ inl below
]

pub bytes_or_not : (a b : Bytes) → OrNot (a ≡ b)
bytes_or_not a b = alike (bytes_eq-Decides a b).0 (bytes_eq-Decides a b).1 (true_or_not (bytes_eq a b))

pub utf8_or_not : (bytes : Bytes) → OrNot (IsUtf8 bytes)
utf8_or_not bytes = alike (IsUtf8-from_is_utf8 bytes) (is_utf8-from_IsUtf8 bytes) (true_or_not (is_utf8 bytes))

-- ---- paths

named_or_not : (part : Bytes) → OrNot (IsNamed part)
named_or_not part =
    alike (λ is. record { not_empty = is.0; not_here = is.1.0; not_above = is.1.1 }) (λ named. (named.not_empty, (named.not_here, named.not_above)))
    (both (opposite (bytes_or_not part [])) (both (opposite (bytes_or_not part (46 ∷ []))) (opposite (bytes_or_not part (46 ∷ 46 ∷ [])))))

abbrev Printed : Bytes → Type 0
Printed bytes = AllByRecursion (λ b. 32 ≤ b) bytes

form_or_not : (bytes : Bytes) → OrNot (HasPathForm bytes)
form_or_not bytes =
    alike
    (λ is. record {
      some = is.0;
      short = is.1.0;
      text = is.1.1.0;
      printed = All-from_recursion (λ b. 32 ≤ b) bytes is.1.1.1.0;
      ending = is.1.1.1.1.0;
      parts = is.1.1.1.1.1;
    })
    (λ form. (form.some, (form.short, (form.text, (recursion_from_All (λ b. 32 ≤ b) bytes form.printed, (form.ending, form.parts))))))
    (both (within_or_not 1 (length bytes)) (both (within_or_not (length bytes) 1024) (both (utf8_or_not bytes)
    (both (each_or_not (λ b. 32 ≤ b) (within_or_not 32) bytes) (both (true_or_not (ends_with nat_eq bytes JS)) (each_or_not IsNamed named_or_not (cut bytes)))))))

pub normal_or_not : (bytes : Bytes) → OrNot (IsNormalPath bytes)
normal_or_not bytes = alike (is_normal bytes) (has_form bytes) (form_or_not bytes)

-- ---- commands

-- ---- parts

-- there is such a thing, or there is none
abbrev SomeOrNone : {X : Type 0} → (X → Type 0) → Type 0
SomeOrNone {X} P = ((x : X) × P x) ⊎ ((x : X) → P x → ⊥)

path_or_none : (value : Data) → SomeOrNone (λ path. HasPath path value)
path_or_none value = at (text_at (codes "path") value) refl where
  at : (o : Option Bytes) → text_at (codes "path") value ≡ o → SomeOrNone (λ path. HasPath path value)
  at None lacks = inr (λ p has. none-some p (sym lacks ∙ has.0))
  at (Some path) there = elim (normal_or_not path) [
    | inl normal ↦ inl (path, (there, normal))
    | inr never ↦ inr (λ p has. never (subst IsNormalPath (same_Some p path (sym has.0 ∙ there)) has.1))
  ]

value_or_none : {X : Type 0} (o : Option X) → SomeOrNone (λ x. o ≡ Some x)
value_or_none None = inr (λ x is. none-some x is)
value_or_none (Some x) = inl (x, refl)

parts_or_not : (k : Kind) (value : Data) → SomeOrNone (HasParts k value)
parts_or_not Status value = inl (ask.Status, refl)
parts_or_not Ls value = inl (ask.Ls, refl)
parts_or_not Errors value = elim (path_or_none value) [
  | inl path ↦ inl (ask.Errors path.0, (path.0, path.1, refl))
  | inr never ↦ inr (λ a has. never has.0 has.1)
]
parts_or_not Importers value = elim (path_or_none value) [
  | inl path ↦ inl (ask.Importers path.0, (path.0, path.1, refl))
  | inr never ↦ inr (λ a has. never has.0 has.1)
]
parts_or_not Signature value = elim (path_or_none value) [
  | inl path ↦ inl (ask.Signature path.0, (path.0, path.1, refl))
  | inr never ↦ inr (λ a has. never has.0 has.1)
]
parts_or_not CheckContents value = elim (path_or_none value) [
  | inr never ↦ inr (λ a has. never has.0 has.2)
  | inl path ↦ elim (value_or_none (text_at (codes "text") value)) [
    | inl text ↦ inl (ask.CheckContents path.0 text.0, (path.0, text.0, path.1, text.1, refl))
    | inr never ↦ inr (λ a has. never has.1 has.3)
  ]
]
parts_or_not FindModule value = elim (path_or_none value) [
  | inr never ↦ inr (λ a has. never has.0 has.2)
  | inl path ↦ elim (value_or_none (text_at (codes "spec") value)) [
    | inl spec ↦ inl (ask.FindModule path.0 spec.0, (path.0, spec.0, path.1, spec.1, refl))
    | inr never ↦ inr (λ a has. never has.1 has.3)
  ]
]
parts_or_not TypeAtPos value = elim (path_or_none value) [
  | inr never ↦ inr (λ a has. never has.0 has.3)
  | inl path ↦ elim (value_or_none (whole_at (codes "line") value)) [
    | inr never ↦ inr (λ a has. never has.1 has.4)
    | inl line ↦ elim (value_or_none (whole_at (codes "col") value)) [
      | inl column ↦ inl (ask.TypeAtPos path.0 line.0 column.0, (path.0, line.0, column.0, path.1, line.1, column.1, refl))
      | inr never ↦ inr (λ a has. never has.2 has.5)
    ]
  ]
]

pub asks_or_not : (value : Data) → ((a : Ask) × Asks value a) ⊎ ((a : Ask) → Asks value a → ⊥)
asks_or_not value = at (kind_in value) refl where
  of_kind : (k : Kind) → kind_in value ≡ Some k → SomeOrNone (HasParts k value) → ((a : Ask) × Asks value a) ⊎ ((a : Ask) → Asks value a → ⊥)
  of_kind k is (inl asked) = inl (asked.0, (k, has_word value k is, asked.1))
  of_kind k is (inr never) = inr (asks_no_other value k None is never)

  at : (o : Option Kind) → kind_in value ≡ o → ((a : Ask) × Asks value a) ⊎ ((a : Ask) → Asks value a → ⊥)
  at None none = inr (asks_nothing value none)
  at (Some k) is = of_kind k is (parts_or_not k value)
