-- A value asks one thing at most, by its word and the parts of that.
use Rattle.std.proofs.Common.{◌≡◌, Bool, true, false, Option, Some, None, refl, sym, ap, ◌∙◌, subst}
use Rattle.std.specs.Prelude.{bytes_eq, codes, option_and_then, Result, IfOk, IfSome, IfNone, if◌then◌else◌}
use Rattle.std.proofs.lemmas.Option.{none-some, same_Some, option_and_then_some}
use Rattle.std.proofs.lemmas.Slice.Eq.{bytes_eq-Decides}
use Rattle.serde_json.specs.Data.{Data}
use Rattle.flow_values.specs.Path.{Bytes}
use Rattle.asks.specs.declared.ask.Ask.{Ask}
use Rattle.asks.specs.declared.ask.Ask.TheVariants as ask
use Rattle.ask_line.specs.declared.kinds.Kind.{Kind}
use Rattle.ask_line.specs.declared.kinds.Kind.TheVariants.{Status, Errors, CheckContents, TypeAtPos, FindModule, Ls, Importers, Signature}
use Rattle.ask_line.specs.Asking.{text_at, HasText, word_of, HasParts, Asks, kind_named, kind_in}

-- ---- words and kinds

pick : (P : Kind → Type 0) (b : Bool) (s t : Kind) (rest : Option Kind) → (b ≡ true → P s) → (rest ≡ Some t → P t) → (if b then Some s else rest) ≡ Some t → P t
pick P true s t rest here later is = subst P (same_Some s t is) (here refl)
pick P false s t rest here later is = later is

is_named : (word : Bytes) (k : Kind) → kind_named word ≡ Some k → word ≡ word_of k
is_named word k =
    let is : (t : Kind) → bytes_eq word (word_of t) ≡ true → word ≡ word_of t = λ t. (bytes_eq-Decides word (word_of t)).0 in
    let P : Kind → Type 0 = λ t. word ≡ word_of t in
    pick P _ Status k _ (is Status)
    (pick P _ Errors k _ (is Errors)
    (pick P _ CheckContents k _ (is CheckContents)
    (pick P _ TypeAtPos k _ (is TypeAtPos)
    (pick P _ FindModule k _ (is FindModule)
    (pick P _ Ls k _ (is Ls)
    (pick P _ Importers k _ (is Importers)
    (pick P _ Signature k None (is Signature) (λ none. absurd (none-some k none)))))))))

named : (k : Kind) → kind_named (word_of k) ≡ Some k
named Status = refl
named Errors = refl
named CheckContents = refl
named TypeAtPos = refl
named FindModule = refl
named Ls = refl
named Importers = refl
named Signature = refl

-- the kind of a value is that of its word
pub kind_is : (value : Data) (k : Kind) → HasText (codes "what") (word_of k) value → kind_in value ≡ Some k
kind_is value k has = ap (option_and_then kind_named) has ∙ named k

pub has_word : (value : Data) (k : Kind) → kind_in value ≡ Some k → HasText (codes "what") (word_of k) value
has_word value k is = option_and_then_some kind_named (text_at (codes "what") value) k is (λ word at named. at ∙ ap Some (is_named word k named))

pub asks_so : (value : Data) (k : Kind) (found : Option Ask) → kind_in value ≡ Some k → IfSome found (HasParts k value) → IfSome found (Asks value)
asks_so value k None is parts = tt
asks_so value k (Some a) is parts = (k, has_word value k is, parts)

pub asks_no_other : (value : Data) (k : Kind) (found : Option Ask) → kind_in value ≡ Some k → IfNone found ((a : Ask) → HasParts k value a → ⊥) → IfNone found ((a : Ask) → Asks value a → ⊥)
asks_no_other value k None is never = λ a asks. never a (subst (λ j. HasParts j value a) (same_Some asks.0 k (sym (kind_is value asks.0 asks.1) ∙ is)) asks.2)
asks_no_other value k (Some a) is never = tt

pub asks_nothing : (value : Data) → kind_in value ≡ None → (a : Ask) → Asks value a → ⊥
asks_nothing value none a asks = none-some asks.0 (sym none ∙ kind_is value asks.0 asks.1)

-- ---- one question

same_at : {X : Type 0} (o : Option X) (a b : X) → o ≡ Some a → o ≡ Some b → a ≡ b
same_at o a b is also = same_Some a b (sym is ∙ also)

same_parts : (k : Kind) (value : Data) (a b : Ask) → HasParts k value a → HasParts k value b → a ≡ b
same_parts Status value a b is also = is ∙ sym also
same_parts Errors value a b is also = is.2 ∙ ap ask.Errors (same_at _ is.0 also.0 is.1.0 also.1.0) ∙ sym also.2
same_parts CheckContents value a b is also =
    let path = same_at _ is.0 also.0 is.2.0 also.2.0 in
    let text = same_at _ is.1 also.1 is.3 also.3 in
    is.4 ∙ (λ i. ask.CheckContents (path i) (text i)) ∙ sym also.4
same_parts TypeAtPos value a b is also =
    let path = same_at _ is.0 also.0 is.3.0 also.3.0 in
    let line = same_at _ is.1 also.1 is.4 also.4 in
    let column = same_at _ is.2 also.2 is.5 also.5 in
    is.6 ∙ (λ i. ask.TypeAtPos (path i) (line i) (column i)) ∙ sym also.6
same_parts FindModule value a b is also =
    let path = same_at _ is.0 also.0 is.2.0 also.2.0 in
    let spec = same_at _ is.1 also.1 is.3 also.3 in
    is.4 ∙ (λ i. ask.FindModule (path i) (spec i)) ∙ sym also.4
same_parts Ls value a b is also = is ∙ sym also
same_parts Importers value a b is also = is.2 ∙ ap ask.Importers (same_at _ is.0 also.0 is.1.0 also.1.0) ∙ sym also.2
same_parts Signature value a b is also = is.2 ∙ ap ask.Signature (same_at _ is.0 also.0 is.1.0 also.1.0) ∙ sym also.2

pub same_ask : (value : Data) (a b : Ask) → Asks value a → Asks value b → a ≡ b
same_ask value a b is also =
    let kinds = same_Some also.0 is.0 (sym (kind_is value also.0 also.1) ∙ kind_is value is.0 is.1) in
    same_parts is.0 value a b is.2 (subst (λ k. HasParts k value b) kinds also.2)

-- what no object of a kind is, none of the same kind is
pub none_of_kind : {E : Type 0} (j k : Kind) (value : Data) (result : Result (Option Ask) E) → j ≡ k → IfOk result (λ found. IfNone found ((a : Ask) → HasParts k value a → ⊥))
    → IfOk result (λ found. IfNone found ((a : Ask) → HasParts j value a → ⊥))
none_of_kind j k value result same never = subst (λ i. IfOk result (λ found. IfNone found ((a : Ask) → HasParts i value a → ⊥))) (sym same) never
