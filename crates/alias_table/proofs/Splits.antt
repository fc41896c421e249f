-- Own rows, one after the other, beside those of others.
use Rattle.std.proofs.Common.{◌≡◌, ℕ, ◌+◌, ◌<◌, ◌≤◌, Bool, true, false, List, [], ◌∷◌, ◌++◌, length, get_or, take, take_all, Option, Some, None, if◌then◌else◌, refl, sym, ap, ◌∙◌, subst}
use Rattle.std.specs.Option.{option_or, is_some, IfSome}
use Rattle.std.proofs.lemmas.List.{take_more}
use Rattle.type_values.specs.declared.types.FlowType.{FlowType}
use Rattle.alias_table.specs.Aliases.{Row, Key, is_text, is_row_of, alias_type}
use Rattle.alias_table.specs.Splitting.{AreApart, Splits}
use Rattle.alias_table.proofs.Beside.{types_append}
use Rattle.alias_table.proofs.Graph.{none_some, split_and}
use Rattle.alias_table.proofs.Texts.{same_text}

-- the type that one row gives an alias
abbrev single : Row → Key → Option FlowType
single row key = if is_row_of key row then Some row.2 else None

one_more : (before : List Row) (row : Row) (key : Key) → alias_type (before ++ row ∷ []) key ≡ option_or (alias_type before key) (single row key)
one_more before row key = types_append before (row ∷ []) key

same_key : (key : Key) (row : Row) → is_row_of key row ≡ true → key ≡ (row.0, row.1)
same_key key row is = let both = split_and (is_text key.0 row.0) (is_text key.1 row.1) is in λ i. (same_text key.0 row.0 both.0 i, same_text key.1 row.1 both.1 i)

or_none : (o : Option FlowType) → option_or o None ≡ o
or_none None = refl
or_none (Some t) = refl

module _ (others before apart : List Row) (row : Row) (s : Splits others before apart) where
  abbrev O : Key → Option FlowType
  O = alias_type others

  abbrev unless : Option FlowType → Option FlowType → Option FlowType
  unless o p = if is_some o then None else p

  -- others have the row
  module _ (known : FlowType) (there : O (row.0, row.1) ≡ Some known) (one : known ≡ row.2) where
    kept : (key : Key) (b : Bool) → is_row_of key row ≡ b → alias_type apart key ≡ unless (O key) (option_or (alias_type before key) (if b then Some row.2 else None))
    kept key false is = s.lacking key ∙ ap (unless (O key)) (sym (or_none (alias_type before key)))
    kept key true is = let at : O key ≡ Some known = ap O (same_key key row is) ∙ there in
        s.lacking key ∙ ap (λ (o : Option FlowType). unless o (alias_type before key)) at ∙ ap (λ (o : Option FlowType). unless o (option_or (alias_type before key) (Some row.2))) (sym at)

    agree : (key : Key) (t u : FlowType) (o : Option FlowType) → alias_type before key ≡ o → (b : Bool) → is_row_of key row ≡ b → option_or o (if b then Some row.2 else None) ≡ Some t → O key ≡ Some u → t ≡ u
    agree key t u (Some v) at b is now has = let e : v ≡ t = cc in sym e ∙ s.same key v u at has
    agree key t u None at true is now has =
        let e : row.2 ≡ t = cc in
        let both : Some u ≡ Some known = sym has ∙ ap O (same_key key row is) ∙ there in
        let f : u ≡ known = cc in sym e ∙ sym one ∙ sym f
    agree key t u None at false is now has = none_some t now

    pub splits_known : Splits others (before ++ row ∷ []) apart
    splits_known = record {
      lacking = λ key. kept key (is_row_of key row) refl ∙ ap (unless (O key)) (sym (one_more before row key));
      same = λ key t u now has. agree key t u (alias_type before key) refl (is_row_of key row) refl (sym (one_more before row key) ∙ now) has;
    }

  -- others lack it
  module _ (lacks : O (row.0, row.1) ≡ None) where
    added : (key : Key) (o : Option FlowType) → O key ≡ o → (b : Bool) → is_row_of key row ≡ b →
        option_or (alias_type apart key) (if b then Some row.2 else None) ≡ unless o (option_or (alias_type before key) (if b then Some row.2 else None))
    added key None at b is = ap (λ (p : Option FlowType). option_or p (if b then Some row.2 else None)) (s.lacking key ∙ ap (λ (o : Option FlowType). unless o (alias_type before key)) at)
    added key (Some u) at true is = none_some u (sym (ap O (same_key key row is) ∙ lacks) ∙ at)
    added key (Some u) at false is = ap (λ (p : Option FlowType). option_or p None) (s.lacking key ∙ ap (λ (o : Option FlowType). unless o (alias_type before key)) at)

    agree_still : (key : Key) (t u : FlowType) (o : Option FlowType) → alias_type before key ≡ o → (b : Bool) → is_row_of key row ≡ b → option_or o (if b then Some row.2 else None) ≡ Some t → O key ≡ Some u → t ≡ u
    agree_still key t u (Some v) at b is now has = let e : v ≡ t = cc in sym e ∙ s.same key v u at has
    agree_still key t u None at true is now has = none_some u (sym (ap O (same_key key row is) ∙ lacks) ∙ has)
    agree_still key t u None at false is now has = none_some t now

    pub splits_lacking : Splits others (before ++ row ∷ []) (apart ++ row ∷ [])
    splits_lacking = record {
      lacking = λ key. one_more apart row key ∙ added key (O key) refl (is_row_of key row) refl ∙ ap (unless (O key)) (sym (one_more before row key));
      same = λ key t u now has. agree_still key t u (alias_type before key) refl (is_row_of key row) refl (sym (one_more before row key) ∙ now) has;
    }

pub splits_none : (others apart : List Row) → apart ≡ [] → Splits others [] apart
splits_none others apart none = record {
  lacking = λ key. ap (λ (l : List Row). alias_type l key) none ∙ off (is_some (alias_type others key));
  same = λ key t u now has. none_some t now;
}
  where
    off : (b : Bool) → ◌≡◌ {A = Option FlowType} None (if b then None else None)
    off true = refl
    off false = refl

module _ (own others apart : List Row) (s : Splits others own apart) where
  pub are_apart : AreApart apart others
  are_apart key t at = go (alias_type others key) refl
    where
      go : (o : Option FlowType) → alias_type others key ≡ o → o ≡ None
      go None is = refl
      go (Some u) is = none_some t (sym (ap (λ (o : Option FlowType). if is_some o then None else alias_type own key) is) ∙ sym (s.lacking key) ∙ at)

  pub all_types : (key : Key) → alias_type (apart ++ others) key ≡ option_or (alias_type own key) (alias_type others key)
  all_types key = types_append apart others key ∙ go (alias_type others key) refl
    where
      before : (u : FlowType) → alias_type others key ≡ Some u → (o : Option FlowType) → alias_type own key ≡ o → Some u ≡ option_or o (Some u)
      before u is None at = refl
      before u is (Some t) at = ap Some (sym (s.same key t u at is))

      go : (o : Option FlowType) → alias_type others key ≡ o → option_or (alias_type apart key) o ≡ option_or (alias_type own key) o
      go None is = ap (λ (p : Option FlowType). option_or p None) (s.lacking key ∙ ap (λ (o : Option FlowType). if is_some o then None else alias_type own key) is)
      go (Some u) is = ap (λ (p : Option FlowType). option_or p (Some u)) (s.lacking key ∙ ap (λ (o : Option FlowType). if is_some o then None else alias_type own key) is) ∙ before u is (alias_type own key) refl

pub splits_next : (others all : List Row) (i : ℕ) (row : Row) (apart more : List Row) → i < length all → row ≡ get_or all i row → ((before : List Row) → Splits others before apart → Splits others (before ++ row ∷ []) more) → Splits others (take i all) apart → Splits others (take (i + 1) all) more
splits_next others all i row apart more within is step so_far =
    subst (λ (l : List Row). Splits others l more) (sym (take_more all i row within ∙ ap (λ (u : Row). take i all ++ u ∷ []) (sym is))) (step (take i all) so_far)

pub splits_end : (others all : List Row) (i : ℕ) (apart : List Row) → length all ≤ i → Splits others (take i all) apart → Splits others all apart
splits_end others all i apart past so_far = subst (λ (l : List Row). Splits others l apart) (take_all i all past) so_far

-- what holds anyhow, and what holds of what is there
pub if_some_all : {X : Type 0} {P : Type 0} (o : Option X) → P → IfSome o (λ x. P)
if_some_all None p = tt
if_some_all (Some x) p = p

pub of_some : {X : Type 0} (P : X → Type 0) (o : Option X) (x : X) → o ≡ Some x → IfSome o P → P x
of_some {X = X} P o x is holds = subst (λ (p : Option X). IfSome p P) is holds
