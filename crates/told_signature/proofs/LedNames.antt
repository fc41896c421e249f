-- The names that exports lead to, each name of the module looked at once.
use Rattle.std.proofs.Common.{◌≡◌, ℕ, ◌+◌, ◌<◌, Bool, true, false, not, ◌||◌, List, [], ◌∷◌, ◌++◌, length, take, get_or, refl, sym, ap, ◌∙◌, inl, inr, subst, append-nil, Option, None}
use Rattle.std.specs.Ordering.{nat_cmp}
use Rattle.std.specs.Cmp.Lexicographic.{slice_cmp}
use Rattle.std.specs.Map.{lookup}
use Rattle.std.specs.BTreeMap.{is_at}
use Rattle.std.specs.Option.{option_map}
use Rattle.std.specs.Prelude.{unwrap_or}
use Rattle.std.proofs.lemmas.List.Folds.{list_any-append}
use Rattle.std.specs.Str.{bytes_eq}
use Rattle.check_values.specs.Rows.{Bytes, Rows, is_among}
use Rattle.local_signatures.specs.Exports.{Told, told_nothing, led_to}
use Rattle.local_signatures.proofs.Words.{among_left, among_right}
use Rattle.named_rows.proofs.FirstRows.{Adds, lookup_is_row}
use Rattle.named_rows.specs.Seen.{seen}
use Rattle.told_signature.specs.declared.telling.Told.{Told as TheTold}
use denote.Ref.{Bor}
use Rattle.told_signature.specs.declared.telling.Said.{Said}
use Rattle.told_signature.specs.declared.telling.Said.TheVariants as said
use Rattle.told_signature.specs.Seen.{told_view, named_in, said_view}
use Rattle.told_signature.specs.Signing.{led_to_by_all}
use Rattle.told_signature.specs.Leading.{Leads, LeadsOn}
use Rattle.named_rows.proofs.Lists.{flat_last}
use Rattle.told_signature.proofs.Listed.{seen_next}
use Rattle.told_signature.proofs.Search.{either}

-- the names to which one row more leads
one_more : (rows : Rows Told) (row : Bytes × Told) (word : Bytes) → is_among (led_to_by_all (rows ++ row ∷ [])) word ≡ is_among (led_to_by_all rows) word || is_among (led_to row.1) word
one_more rows row word = ap (λ (l : List Bytes). is_among l word) (flat_last (λ r. led_to r.1) rows row) ∙ list_any-append (bytes_eq word) (led_to_by_all rows) (led_to row.1)

or_known : (a b : Bool) → (b ≡ true → a ≡ true) → a ≡ a || b
or_known true b is = refl
or_known false true is = is refl
or_known false false is = refl

module _ (named : Bytes → Told) (met : Bytes → Bool) (names : List Bytes) where
  pub none_leads : ((word : Bytes) → met word ≡ false) → names ≡ [] → Leads named met names []
  none_leads fresh empty = record {
    same = λ word. ap (λ (l : List Bytes). is_among l word) empty;
    whole = λ at word is led. absurd (let f : false ≡ true = sym (fresh at) ∙ is in cc);
  }

  module _ (rows : Rows Told) (name : Bytes) (leads : Leads named met names rows) where
    more : (told : Told) (names' : List Bytes) → names' ≡ names ++ led_to told → (word : Bytes) → is_among names' word ≡ is_among (led_to_by_all (rows ++ (name, told) ∷ [])) word
    more told names' put word =
        ap (λ (l : List Bytes). is_among l word) put ∙ list_any-append (bytes_eq word) names (led_to told) ∙ ap (λ (b : Bool). b || is_among (led_to told) word) (leads.same word) ∙ sym (one_more rows (name, told) word)

    kept : (told : Told) (names' : List Bytes) → names' ≡ names ++ led_to told → (word : Bytes) → is_among names word ≡ true → is_among names' word ≡ true
    kept told names' put word is = ap (λ (l : List Bytes). is_among l word) put ∙ among_left names (led_to told) word is

    -- an export that tells something itself
    pub own_leads : (told : Told) (names' : List Bytes) → names' ≡ names ++ led_to told → Leads named met names' (rows ++ (name, told) ∷ [])
    own_leads told names' put = record {
      same = more told names' put;
      whole = λ at word is led. kept told names' put word (leads.whole at word is led);
    }

    -- a name that was not looked at before, and one that was
    new_leads : (met' : Bytes → Bool) (at : Bytes) (names' : List Bytes) → Adds met met' at → names' ≡ names ++ led_to (named at) → Leads named met' names' (rows ++ (name, named at) ∷ [])
    new_leads met' at names' adds put = record {
      same = more (named at) names' put;
      whole = λ w word is led. elim (either met met' at w adds is) [
        | inl this ↦ ap (λ (l : List Bytes). is_among l word) put ∙ among_right names (led_to (named at)) word (ap (λ (v : Bytes). is_among (led_to (named v)) word) this ∙ led)
        | inr before ↦ kept (named at) names' put word (leads.whole w word before led)
      ];
    }

    old_leads : (met' : Bytes → Bool) (at : Bytes) → Adds met met' at → false ≡ not (met at) → Leads named met' names (rows ++ (name, named at) ∷ [])
    old_leads met' at adds seen_before = record {
      same = λ word. leads.same word ∙ or_known (is_among (led_to_by_all rows) word) (is_among (led_to (named at)) word) (λ led. sym (leads.same word) ∙ leads.whole at word (on (met at) seen_before) led) ∙ sym (one_more rows (name, named at) word);
      whole = λ w word is led. elim (either met met' at w adds is) [
        | inl this ↦ leads.whole at word (on (met at) seen_before) (ap (λ (v : Bytes). is_among (led_to (named v)) word) this ∙ led)
        | inr before ↦ leads.whole w word before led
      ];
    }
      where
        on : (b : Bool) → false ≡ not b → b ≡ true
        on true e = refl
        on false e = absurd (cc)

-- a name that was not looked at before, and one that was, as a whole step
module _ (named : Bytes → Told) (met met' : Bytes → Bool) (names : List Bytes) (word key : Bytes) (same : key ≡ word) (adds : Adds met met' key) where
  pub first_time : (names' : List Bytes) → names' ≡ names ++ led_to (named word) → LeadsOn named (named word) met names met' names'
  first_time names' put = λ rows name leads. new_leads named met names rows name leads met' word names' (subst (Adds met met') same adds) put

  pub again : false ≡ not (met key) → LeadsOn named (named word) met names met' names
  again seen_before = λ rows name leads. old_leads named met names rows name leads met' word (subst (Adds met met') same adds) (seen_before ∙ ap (λ (w : Bytes). not (met w)) same)

pub name_leads : (named : Bytes → Told) (met met' : Bytes → Bool) (names names' : List Bytes) (s : Said) (word : Bor Bytes) → s ≡ said.Name word → LeadsOn named (named word.now) met names met' names' → LeadsOn named (said_view named s) met names met' names'
name_leads named met met' names names' s word is step = subst (λ (t : Told). LeadsOn named t met names met' names') (ap (said_view named) (sym is)) step

-- a turn of the loop over rows, and its end
pub leads_next : {A : Type 0} (named : Bytes → Told) (view : A → Told) (rows : Rows A) (i : ℕ) (row : Bytes × A) (met met' : Bytes → Bool) (names names' : List Bytes) → i < length rows → row ≡ get_or rows i row →
    LeadsOn named (view row.1) met names met' names' → Leads named met names (seen view (take i rows)) → Leads named met' names' (seen view (take (i + 1) rows))
leads_next named view rows i row met met' names names' within at step leads = subst (Leads named met' names') (sym (seen_next view rows i row within at)) (step (seen view (take i rows)) row.0 leads)

-- a name that the table lacks leads to nothing
pub no_name : (table : Rows TheTold) (word : Bytes) (names : List Bytes) → lookup (is_at (slice_cmp nat_cmp word)) table ≡ None → names ≡ names ++ led_to (named_in table word)
no_name table word names none = sym (ap (λ (o : Option TheTold). names ++ led_to (unwrap_or (option_map told_view o) told_nothing)) (sym (lookup_is_row table word) ∙ none) ∙ append-nil names)
