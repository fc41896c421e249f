-- Each module's spelling is read as that module.
use Rattle.std.proofs.Common.{◌≡◌, refl, sym, ◌∙◌, ap, ap₂, subst, ◌⊎◌, inl, inr, ℕ, suc, Bool, true, false, List, [], ◌∷◌, codes, arith, if◌then◌else◌}
use Rattle.std.specs.Str.{bytes_eq}
use Rattle.std.proofs.lemmas.Slice.Eq.{bytes_eq-Decides}
use Rattle.std.proofs.lemmas.Bool.{false≢true, true≢false}
use Rattle.js_token.specs.declared.token.TokenKind.{TokenKind}
use Rattle.js_token.specs.declared.token.TokenKind.TheVariants.{Name, Str, Punct}
use Rattle.js_token.specs.declared.punct.Punct.TheVariants.{Comma, Semicolon, Assign}
use Rattle.js_grammar.specs.Words.{Bytes, IsName}
use Rattle.js_grammar.specs.TypeSpelling.{Tokens, opt, spell}
use Rattle.js_grammar.specs.TypeFits.{bump, stop}
use Rattle.js_grammar.specs.Machine as ty
use Rattle.js_grammar.specs.Code.{Binder, const, let_word, Ex, function, declaration, simple, return_bare, return_value, throw_value, break_loop, continue_loop, assign, evaluate}
use Rattle.js_grammar.specs.CodeSpelling.{binder_word, spell_ex}
use Rattle.js_grammar.specs.CodePlaces.{stop_ex, stop_function, stop_declaration}
use Rattle.js_grammar.specs.CodeFits.{BeginsNot}
use Rattle.js_grammar.specs.Items.{ImportList, import_list, exported, Exporteds, no_exported, more_exported, ExportList, export_list, ImportForm, import_default, import_both, import_names, import_types, import_only, alias, ExportForm, export_declaration, export_function, export_alias, export_names, export_from, export_default_function, export_default, ItemForm, imports, exports, declares_item, function_item, alias_item, does_item, Item, item, Items, no_item, more_item, from_word, type_word, spell_import_list, spell_export_list, spell_import, spell_export, spell_item_form, spell_item, spell_items, stop_importeds, stop_import_list, stop_exporteds, stop_export_list, stop_import, stop_export, stop_item_form, stop_item, stop_items, FitsImportList, AreNames, AreLocal, base_names, IsNoneOf, FitsExportList, FitsImport, FitsExport, FitsItemForm, FitsItem, FitsItems}
use Rattle.code_law.specs.Frames.{FunctionKind, is_statement, is_default, plain_item, exported_item, default_item, opens_names, opens_both, opens_types, opens_exports, alias_type, evaluates, assigns, in_simple, in_item, in_default, Mode, after_binder, items_start, after_type_word, after_import, import_comma, after_list, after_export, export_type, after_exports, after_default, item_end, typing, Stack, go}
use Rattle.code_law.specs.Expressions.{want_step}
use Rattle.code_law.specs.Statements.{StatementWord, plain_word, statement_word}
use Rattle.code_law.specs.Modules.{default_word, is_none_of, may_alias, are_names, are_local}
use Rattle.code_law.specs.Machine.{step, whole_items, run, read_module}
use Rattle.code_law.proofs.Begins.{is_plain, Starts, begin_with}
use Rattle.code_law.proofs.Embedded.{c_type}
use Rattle.code_law.proofs.Complete.{c_ex, c_function, c_declaration, behind_binder, target_read}
use Rattle.code_law.proofs.Names.{c_importeds, c_exporteds}
use Rattle.code_law.proofs.Top.{begin_top}

abbrev is_a_default : FunctionKind → Bool
is_a_default is_default = true
is_a_default q = false

default_statement : is_default ≡ is_statement → ⊥
default_statement e = true≢false (ap is_a_default e)

-- the value behind `export default`
default_opens : (e : Ex) → BeginsNot (Name (codes "function")) e → (i a : ℕ) (k : Stack) (is : Items) (x : TokenKind) → Starts x → BeginsNot x e ⊎ (step i k (after_default a is) x ≡ want_step i (in_default a is ∷ k) x)
default_opens e n i a k is x (inr q) = inl (subst (λ x. BeginsNot x e) (sym q) n)
default_opens e n i a k is (Name m) (inl o) = inr (plain (statement_word m) o)
  where
    plain : (w : StatementWord) → is_plain w ≡ true → default_word i k a is m w ≡ want_step i (in_default a is ∷ k) (Name m)
    plain plain_word h = refl
    plain w h = absurd (false≢true h)
default_opens e n i a k is x (inl o) = inr refl

none_of : (ws : List Bytes) (n : Bytes) → IsNoneOf ws n → is_none_of ws n ≡ true
none_of [] n h = refl
none_of (w ∷ ws) n h = by (bytes_eq n w) refl (none_of ws n (h.1))
  where
    by : (b : Bool) → bytes_eq n w ≡ b → is_none_of ws n ≡ true → (if b then false else is_none_of ws n) ≡ true
    by true e r = absurd (h.0 ((bytes_eq-Decides n w).0 e))
    by false e r = r

alias_named : (n : Bytes) → IsName n → IsNoneOf base_names n → may_alias n ≡ true
alias_named n r h = rw r (none_of base_names n h)

names_local : (ns : Exporteds) → AreNames ns → are_names ns ≡ true
names_local no_exported h = refl
names_local (more_exported ns (exported f t n w)) h = rw (h.1) (names_local ns (h.0))

list_local : (ns : ExportList) → AreLocal ns → are_local ns ≡ true
list_local (export_list f t ns c) h = names_local ns h

module _ (k : Stack) (i : ℕ) (is : Items) where
  -- an item is whole, and the next may begin
  abbrev with_item : ℕ → ItemForm → Mode
  with_item j x = items_start (more_item is (item i j x))

  binder_top : (w : Binder) (l : Tokens) → run i k (items_start is) (Name (binder_word w) ∷ l) ≡ run (suc i) (in_item i plain_item is ∷ k) (after_binder i w) l
  binder_top const l = refl
  binder_top let_word l = refl

  binder_export : (w : Binder) (l : Tokens) → run (suc i) k (after_export i is) (Name (binder_word w) ∷ l) ≡ run (suc (suc i)) (in_item i exported_item is ∷ k) (after_binder (suc i) w) l
  binder_export const l = refl
  binder_export let_word l = refl

  alias_read : (n : Bytes) → may_alias n ≡ true → (l : Tokens) → run (suc i) k (after_type_word i is) (Name n ∷ Punct Assign ∷ l) ≡ run (suc (suc (suc i))) k (typing (alias_type i plain_item is i n) [] ty.want) l
  alias_read n y l = rw y refl

  c_import_names : (ns : ImportList) (j : ℕ) → FitsImportList ns j → (l : Tokens) → run j k (after_import i is) (spell_import_list ns (from_word ∷ l)) ≡ run (stop_import_list ns j) k (after_list i is (import_names ns)) (from_word ∷ l)
  c_import_names (import_list f t ns c) j h l =
      let z = suc (bump c (stop_importeds ns (suc j))) in
      c_importeds k i is opens_names j ns c (suc j) (h.2) (h.3) (from_word ∷ l)
      ∙ ap (λ ns. run z k (after_list i is (import_names ns)) (from_word ∷ l)) (ap₂ (λ f t. import_list f t ns c) (sym (h.0)) (sym (h.1)))

  both_read : (n : Bytes) → IsName n → (j : ℕ) (l : Tokens) → run j k (after_import i is) (Name n ∷ Punct Comma ∷ l) ≡ run (suc (suc j)) k (import_comma i is n) l
  both_read n y j l = rw y refl

  c_import_both : (n : Bytes) → IsName n → (ns : ImportList) (j : ℕ) → FitsImportList ns (suc (suc j)) → (l : Tokens) →
      run j k (after_import i is) (Name n ∷ Punct Comma ∷ spell_import_list ns (from_word ∷ l)) ≡ run (stop_import_list ns (suc (suc j))) k (after_list i is (import_both n ns)) (from_word ∷ l)
  c_import_both n y (import_list f t ns c) j h l =
      let p = suc (suc j) in let z = suc (bump c (stop_importeds ns (suc p))) in
      both_read n y j (spell_import_list (import_list f t ns c) (from_word ∷ l)) ∙ c_importeds k i is (opens_both n) p ns c (suc p) (h.2) (h.3) (from_word ∷ l)
      ∙ ap (λ ns. run z k (after_list i is (import_both n ns)) (from_word ∷ l)) (ap₂ (λ f t. import_list f t ns c) (sym (h.0)) (sym (h.1)))

  c_import_types : (ns : ImportList) (j : ℕ) → FitsImportList ns (suc j) → (l : Tokens) →
      run j k (after_import i is) (type_word ∷ spell_import_list ns (from_word ∷ l)) ≡ run (stop_import_list ns (suc j)) k (after_list i is (import_types ns)) (from_word ∷ l)
  c_import_types (import_list f t ns c) j h l =
      let p = suc j in let z = suc (bump c (stop_importeds ns (suc p))) in
      c_importeds k i is opens_types p ns c (suc p) (h.2) (h.3) (from_word ∷ l)
      ∙ ap (λ ns. run z k (after_list i is (import_types ns)) (from_word ∷ l)) (ap₂ (λ f t. import_list f t ns c) (sym (h.0)) (sym (h.1)))

  c_import : (m : ImportForm) (j : ℕ) → FitsImport m j → (s : Bytes) (l : Tokens) → run j k (after_import i is) (spell_import m (Str s ∷ l)) ≡ run (suc (stop_import m j)) k (item_end i is (imports m s)) l
  c_import (import_default n) j h s l = rw h refl
  c_import (import_both n ns) j h s l = c_import_both n (h.0) ns j (h.1) (Str s ∷ l)
  c_import (import_names ns) j h s l = c_import_names ns j h (Str s ∷ l)
  c_import (import_types ns) j h s l = c_import_types ns j h (Str s ∷ l)
  c_import import_only j h s l = refl

  c_export_list : (o : Bool) (ns : ExportList) (j : ℕ) → FitsExportList ns (bump o j) → (l : Tokens) →
      run j k (after_export i is) (opt o type_word (spell_export_list ns l)) ≡ run (stop_export_list ns (bump o j)) k (after_exports i is o ns) l
  c_export_list true (export_list f t ns c) j h l =
      let p = suc j in let z = suc (bump c (stop_exporteds ns (suc p))) in
      c_exporteds k i is (opens_exports true) p ns c (suc p) (h.2) (h.3) l ∙ ap (λ ns. run z k (after_exports i is true ns) l) (ap₂ (λ f t. export_list f t ns c) (sym (h.0)) (sym (h.1)))
  c_export_list false (export_list f t ns c) j h l =
      let z = suc (bump c (stop_exporteds ns (suc j))) in
      c_exporteds k i is (opens_exports false) j ns c (suc j) (h.2) (h.3) l ∙ ap (λ ns. run z k (after_exports i is false ns) l) (ap₂ (λ f t. export_list f t ns c) (sym (h.0)) (sym (h.1)))

  local_read : (o : Bool) (ns : ExportList) → AreLocal ns → (j : ℕ) (l : Tokens) → run j k (after_exports i is o ns) (Punct Semicolon ∷ l) ≡ run (suc j) k (with_item (suc j) (exports (export_names o ns))) l
  local_read o ns h j l = rw (list_local ns h) refl

  exported_alias : (n : Bytes) → may_alias n ≡ true → (j p : ℕ) (l : Tokens) → run j k (export_type i is p) (Name n ∷ Punct Assign ∷ l) ≡ run (suc (suc j)) k (typing (alias_type i exported_item is p n) [] ty.want) l
  exported_alias n y j p l = rw y refl

  c_export : (e : ExportForm) → FitsExport e (suc i) → (l : Tokens) → run (suc i) k (after_export i is) (spell_export e l) ≡ run (stop_export e (suc i)) k (with_item (stop_export e (suc i)) (exports e)) l
  c_export (export_declaration (declaration f t w n v d)) h l =
      let y = declaration f t w n v d in
      binder_export w (behind_binder y (Punct Semicolon ∷ l)) ∙ c_declaration y (suc i) h (in_item i exported_item is ∷ k) l (go k (with_item (suc (stop_declaration y (suc i))) (exports (export_declaration y)))) refl
  c_export (export_function (function f t n g b)) h l =
      let y = function f t n g b in c_function y (suc i) (h.1) is_statement (λ q. h.0) (in_item i exported_item is ∷ k) l (go k (with_item (stop_function y (suc i)) (exports (export_function y)))) refl
  c_export (export_alias (alias f t n v)) h l =
      let j = suc i in let p = suc (suc (suc j)) in let z = stop v p in
      exported_alias n (alias_named n (h.2) (h.3)) (suc j) j (spell v (Punct Semicolon ∷ l)) ∙ c_type p k (alias_type i exported_item is j n) v (h.4) (λ g. refl) (Punct Semicolon ∷ l) refl
      ∙ ap (λ y. run (suc z) k (with_item (suc z) (exports (export_alias y))) l) (ap₂ (λ f t. alias f t n v) (sym (h.0)) (sym (h.1)))
  c_export (export_names o ns) h l = c_export_list o ns (suc i) (h.1) (Punct Semicolon ∷ l) ∙ local_read o ns (h.0) (stop_export_list ns (bump o (suc i))) l
  c_export (export_from o ns s) h l = c_export_list o ns (suc i) h (from_word ∷ Str s ∷ Punct Semicolon ∷ l)
  c_export (export_default_function (function f t n g b)) h l =
      let y = function f t n g b in let j = suc (suc i) in
      c_function y j h is_default (λ q. absurd (default_statement q)) (in_item i default_item is ∷ k) l (go k (with_item (stop_function y j) (exports (export_default_function y)))) refl
  c_export (export_default e) h l =
      let j = suc (suc i) in let a = in_default i is ∷ k in
      begin_with e j (h.1) j k a (after_default i is) (λ x s. default_opens e (h.0) j i k is x s) (Punct Semicolon ∷ l) ∙ c_ex e j (h.1) a (omega arith) (Punct Semicolon ∷ l) (omega arith)

  c_item_form : (x : ItemForm) → FitsItemForm x i → (l : Tokens) → run i k (items_start is) (spell_item_form x l) ≡ run (stop_item_form x i) k (with_item (stop_item_form x i) x) l
  c_item_form (imports m s) h l = c_import m (suc i) h s (Punct Semicolon ∷ l)
  c_item_form (exports e) h l = c_export e h l
  c_item_form (declares_item (declaration f t w n v d)) h l =
      let y = declaration f t w n v d in
      binder_top w (behind_binder y (Punct Semicolon ∷ l)) ∙ c_declaration y i h (in_item i plain_item is ∷ k) l (go k (with_item (suc (stop_declaration y i)) (declares_item y))) refl
  c_item_form (function_item (function f t n g b)) h l =
      let y = function f t n g b in c_function y i (h.1) is_statement (λ q. h.0) (in_item i plain_item is ∷ k) l (go k (with_item (stop_function y i) (function_item y))) refl
  c_item_form (alias_item (alias f t n v)) h l =
      let p = suc (suc (suc i)) in let z = stop v p in
      alias_read n (alias_named n (h.2) (h.3)) (spell v (Punct Semicolon ∷ l)) ∙ c_type p k (alias_type i plain_item is i n) v (h.4) (λ g. refl) (Punct Semicolon ∷ l) refl
      ∙ ap (λ y. run (suc z) k (with_item (suc z) (alias_item y)) l) (ap₂ (λ f t. alias f t n v) (sym (h.0)) (sym (h.1)))
  c_item_form (does_item (simple f t return_bare)) h l = absurd (h.0)
  c_item_form (does_item (simple f t (return_value e))) h l = absurd (h.0)
  c_item_form (does_item (simple f t (throw_value e))) h l = absurd (h.0)
  c_item_form (does_item (simple f t break_loop)) h l = absurd (h.0)
  c_item_form (does_item (simple f t continue_loop)) h l = absurd (h.0)
  c_item_form (does_item (simple f t (assign d e))) h l =
      let a = in_item i plain_item is ∷ k in let n = Punct Semicolon ∷ l in let p = Punct Assign ∷ spell_ex e n in let q = h.2.2 in let z = stop_ex d i in let j = stop_ex e (suc z) in
      begin_top i k is d (q.2) (q.1) p (h.1 l) ∙ c_ex d i (q.2) (in_simple i evaluates ∷ a) (omega arith) p (omega arith) ∙ target_read d (q.0) i z a (spell_ex e n)
      ∙ c_ex e (suc z) (q.3) (in_simple i (assigns d) ∷ a) (omega arith) n (omega arith)
      ∙ ap (λ y. run (suc j) k (with_item (suc j) (does_item y)) l) (ap₂ (λ f t. simple f t (assign d e)) (sym (h.2.0)) (sym (h.2.1)))
  c_item_form (does_item (simple f t (evaluate e))) h l =
      let a = in_item i plain_item is ∷ k in let n = Punct Semicolon ∷ l in let q = h.2.2 in let z = stop_ex e i in
      begin_top i k is e (q.1) (q.0) n (h.1 l) ∙ c_ex e i (q.1) (in_simple i evaluates ∷ a) (omega arith) n (omega arith)
      ∙ ap (λ y. run (suc z) k (with_item (suc z) (does_item y)) l) (ap₂ (λ f t. simple f t (evaluate e)) (sym (h.2.0)) (sym (h.2.1)))

pub c_item : (y : Item) (i : ℕ) → FitsItem y i → (k : Stack) (is : Items) (l : Tokens) → run i k (items_start is) (spell_item y l) ≡ run (stop_item y i) k (items_start (more_item is y)) l
c_item (item f t x) i h k is l =
    c_item_form k i is x (h.2) l ∙ ap (λ y. run (stop_item_form x i) k (items_start (more_item is y)) l) (ap₂ (λ f t. item f t x) (sym (h.0)) (sym (h.1)))

c_items : (is : Items) (i : ℕ) → FitsItems is i → (k : Stack) (l : Tokens) → run i k (items_start no_item) (spell_items is l) ≡ run (stop_items is i) k (items_start is) l
c_items no_item i h k l = refl
c_items (more_item is y) i h k l = c_items is i (h.0) k (spell_item y l) ∙ c_item y (stop_items is i) (h.1) k is l

-- what a whole module's spelling is read as
pub reads_items : (is : Items) → FitsItems is 0 → read_module (spell_items is []) ≡ whole_items is []
reads_items is h = c_items is 0 h [] []
