-- Each step at top level keeps what its state stands for.
use Rattle.std.proofs.Common.{◌≡◌, refl, sym, ◌∙◌, ap, subst, ℕ, suc, ◌≤◌, arith, ◌&&◌, Bool, true, false, not, Option, Some, None, List, [], ◌∷◌, ◌++◌, codes, if◌then◌else◌}
use Rattle.std.specs.Str.{bytes_eq}
use Rattle.std.proofs.lemmas.Slice.Eq.{bytes_eq-Decides}
use Rattle.std.proofs.lemmas.Bool.{false≢true}
use Rattle.js_token.specs.Words.{is_reserved}
use Rattle.js_token.specs.declared.token.TokenKind.{TokenKind}
use Rattle.js_token.specs.declared.token.TokenKind.TheVariants.{Name, Str, Punct}
use Rattle.js_token.specs.declared.punct.Punct.TheVariants.{OpenBrace, CloseBrace, Comma, Semicolon, Assign, PlusPlus}
use Rattle.js_grammar.specs.Words.{Bytes, IsName}
use Rattle.js_grammar.specs.TypeSpelling.{Tokens, opt}
use Rattle.js_grammar.specs.TypeFits.{bump, CommaFits}
use Rattle.js_grammar.specs.Code.{Binder, const, let_word, ex, variable, no_link}
use Rattle.js_grammar.specs.CodeSpelling.{binder_word}
use Rattle.js_grammar.specs.Items.{Importeds, no_imported, more_imported, import_list, Exporteds, no_exported, more_exported, exported, ExportList, export_list, ImportForm, import_default, import_both, import_names, import_types, import_only, export_names, export_from, ItemForm, imports, exports, Items, has_importeds, has_exporteds, base_names, IsNoneOf, AreNames, AreLocal, from_word, type_word, spell_items, spell_item_form, spell_import, spell_export_list, stop_import, stop_importeds, stop_exporteds, FitsImporteds, FitsImportList, FitsExporteds, FitsExportList, begins_word, begins_alias}
use Rattle.code_law.specs.Frames.{Wrap, plain_item, exported_item, Opening, opens_names, opens_both, opens_types, opens_exports, Names, importing, exporting, Listing, listing, in_simple, in_item, in_default, evaluates, after_type_word, after_alias, after_import, import_word, import_comma, names_start, after_name, after_as, after_pair, after_list, after_from, after_export, export_type, after_exports, exports_from, after_default, item_end, Stack, Step, fault, go}
use Rattle.code_law.specs.Expressions.{want_step}
use Rattle.code_law.specs.Statements.{StatementWord, binds, begins_function, begins_import, begins_export, plain_word, statement_word, simple_word}
use Rattle.code_law.specs.Modules.{top_word, items_step, is_none_of, may_alias, type_word_step, alias_step, import_step, from_step, import_word_step, import_comma_step, add_name, has_names, may_name, end_names, names_step, pair_step, name_step, as_step, source_step, end_item, export_word, export_step, export_type_step, are_names, are_local, exports_step, exports_from_step, default_word, default_step}
use Rattle.code_law.proofs.StatementWords.{IsStatement, statement_is}
use Rattle.code_law.proofs.Stands.{stands_moved}
use Rattle.code_law.proofs.Typing.{typing_at}
use Rattle.code_law.proofs.KeptBodies.{k_item}
use Rattle.code_law.proofs.KeptExpressions.{k_want, k_links}
use Rattle.code_law.proofs.States.{import_token, export_token, default_token, as_token, spell_listing, spell_pair, imports_names, spell_opening, spell_begun_names, spell_names, spell_before, spell_short, spell_mode, starts_plain, not_function_word, is_plain_word, Stands, IsBottom, FitsTop, FitsStack, FitsNames, FitsOpening, FitsListing, takes_simple, stop_names, stop_begun_names, begun_end, names_end, stop_before, is_short, FitsMode, FitsStep}

stands_same : (q : Tokens) (k : Stack) (s r : Tokens → Tokens) → ((l : Tokens) → s l ≡ r l) → Stands q k s → Stands q k r
stands_same q k s r e h = stands_moved q k s r (λ l. sym (e l)) h

binder_apart : (w : Binder) (l : Tokens) → begins_alias (Name (binder_word w) ∷ l) ≡ false
binder_apart const l = refl
binder_apart let_word l = refl

at_bottom : (q : Tokens) (k : Stack) (s : Tokens → Tokens) → IsBottom k → Stands q k s → (l : Tokens) → s l ≡ q ++ l
at_bottom q [] s b h = h
at_bottom q (f ∷ k) s b h = absurd b

stack_bottom : (k : Stack) → IsBottom k → FitsStack k 0
stack_bottom [] b = refl
stack_bottom (f ∷ k) b = absurd b

is_word : (n w : Bytes) → bytes_eq n w ≡ true → w ≡ n
is_word n w e = sym ((bytes_eq-Decides n w).0 e)

none_of : (ws : List Bytes) (n : Bytes) → is_none_of ws n ≡ true → IsNoneOf ws n
none_of [] n e = tt
none_of (w ∷ ws) n e = by (bytes_eq n w) refl (none_of ws n) e
  where
    by : (b : Bool) → bytes_eq n w ≡ b → (is_none_of ws n ≡ true → IsNoneOf ws n) → (if b then false else is_none_of ws n) ≡ true → IsNoneOf (w ∷ ws) n
    by true h r e = absurd (false≢true e)
    by false h r e = ((λ d. absurd (false≢true (sym h ∙ (bytes_eq-Decides n w).1 d))), r e)

alias_name : (n : Bytes) → may_alias n ≡ true → IsName n × IsNoneOf base_names n
alias_name n e = by (is_reserved n) refl e
  where
    by : (b : Bool) → is_reserved n ≡ b → (if b then false else is_none_of base_names n) ≡ true → IsName n × IsNoneOf base_names n
    by true h e = absurd (false≢true e)
    by false h e = (h, none_of base_names n e)

names_are : (ns : Exporteds) → are_names ns ≡ true → AreNames ns
names_are no_exported e = tt
names_are (more_exported ns (exported f t n w)) e = by (is_reserved n) refl (names_are ns) e
  where
    by : (b : Bool) → is_reserved n ≡ b → (are_names ns ≡ true → AreNames ns) → (if b then false else are_names ns) ≡ true → AreNames ns × IsName n
    by true h r e = absurd (false≢true e)
    by false h r e = (r e, h)

local_is : (ns : ExportList) → are_local ns ≡ true → AreLocal ns
local_is (export_list f t ns c) e = names_are ns e

not_reserved : (b : Bool) → not b ≡ true → b ≡ false
not_reserved true e = absurd (false≢true e)
not_reserved false e = refl

stop_from : (m : ImportForm) → imports_names m ≡ true → (j : ℕ) → stop_import m j ≡ suc (stop_before m j)
stop_from (import_default n) e j = refl
stop_from (import_both n ns) e j = refl
stop_from (import_names ns) e j = refl
stop_from (import_types ns) e j = refl
stop_from import_only e j = absurd (false≢true e)

spell_from : (m : ImportForm) → imports_names m ≡ true → (l : Tokens) → spell_before m (from_word ∷ l) ≡ spell_import m l
spell_from (import_default n) e l = refl
spell_from (import_both n ns) e l = refl
spell_from (import_names ns) e l = refl
spell_from (import_types ns) e l = refl
spell_from import_only e l = absurd (false≢true e)

spell_ended : (y : ItemForm) → is_short y ≡ true → (l : Tokens) → spell_short y (Punct Semicolon ∷ l) ≡ spell_item_form y l
spell_ended (imports m s) e l = refl
spell_ended (exports (export_from o ns s)) e l = refl
spell_ended (exports (export_names o ns)) e l = refl
spell_ended y e l = absurd (false≢true e)

-- a list in braces, whose place is z
import_list_fits : (s i : ℕ) (ns : Importeds) (c : Bool) (z : ℕ) → s ≡ z → FitsImporteds ns (suc s) → i ≡ bump c (stop_importeds ns (suc s)) → CommaFits c (has_importeds ns) → FitsImportList (import_list s (suc i) ns c) z
import_list_fits s i ns c z e f j d = (e, ap suc (j ∙ ap (λ z. bump c (stop_importeds ns (suc z))) e), subst (λ z. FitsImporteds ns (suc z)) e f, d)

export_list_fits : (s i : ℕ) (ns : Exporteds) (c : Bool) (z : ℕ) → s ≡ z → FitsExporteds ns (suc s) → i ≡ bump c (stop_exporteds ns (suc s)) → CommaFits c (has_exporteds ns) → FitsExportList (export_list s (suc i) ns c) z
export_list_fits s i ns c z e f j d = (e, ap suc (j ∙ ap (λ z. bump c (stop_exporteds ns (suc z))) e), subst (λ z. FitsExporteds ns (suc z)) e f, d)

begun_stop : (a : ℕ) (is : Items) (o : Opening) (z : ℕ) (ns : Names) (i : ℕ) → stop_begun_names ns i ≡ bump (has_names (listing a is o z ns)) (stop_names ns i)
begun_stop a is o z (importing no_imported) i = refl
begun_stop a is o z (importing (more_imported ns n)) i = refl
begun_stop a is o z (exporting no_exported) i = refl
begun_stop a is o z (exporting (more_exported ns n)) i = refl

begun_spelled : (a : ℕ) (is : Items) (o : Opening) (z : ℕ) (ns : Names) (l : Tokens) → spell_begun_names ns l ≡ spell_names ns (opt (has_names (listing a is o z ns)) (Punct Comma) l)
begun_spelled a is o z (importing no_imported) l = refl
begun_spelled a is o z (importing (more_imported ns n)) l = refl
begun_spelled a is o z (exporting no_exported) l = refl
begun_spelled a is o z (exporting (more_exported ns n)) l = refl

-- the place behind a name, or a pair, that begins at b
abbrev behind : Option Bytes → ℕ → ℕ
behind None b = suc b
behind (Some m) b = suc (suc (suc b))

abbrev named_as : Option Bytes → Bytes → Bytes
named_as None n = n
named_as (Some m) n = m

abbrev spell_as : Option Bytes → Tokens → Tokens
spell_as None l = l
spell_as (Some m) l = as_token ∷ Name m ∷ l

opened : (o : Opening) (ns rs : Importeds) (a z : ℕ) → FitsOpening o (importing ns) a z → FitsOpening o (importing rs) a z
opened opens_names ns rs a z h = h
opened (opens_both n) ns rs a z h = h
opened opens_types ns rs a z h = h
opened (opens_exports c) ns rs a z h = absurd h

opened_exports : (o : Opening) (ns rs : Exporteds) (a z : ℕ) → FitsOpening o (exporting ns) a z → FitsOpening o (exporting rs) a z
opened_exports opens_names ns rs a z h = absurd h
opened_exports (opens_both n) ns rs a z h = absurd h
opened_exports opens_types ns rs a z h = absurd h
opened_exports (opens_exports c) ns rs a z h = h

added : (k : Stack) (r : Listing) (b j : ℕ) (n : Bytes) (m : Option Bytes) → FitsListing k r → b ≡ begun_end r → j ≡ behind m b → may_name r (named_as m n) ≡ true →
    FitsListing k (add_name r b j n m) × (has_names (add_name r b j n m) ≡ true) × (j ≡ names_end (add_name r b j n m))
added k (listing a is o z (importing ns)) b j n None h e d y = ((h.0, opened o ns _ a z (h.1), (h.2, (e, d ∙ ap suc e, not_reserved (is_reserved n) y))), refl, d ∙ ap suc e)
added k (listing a is o z (importing ns)) b j n (Some m) h e d y = ((h.0, opened o ns _ a z (h.1), (h.2, (e, d ∙ ap (λ b. suc (suc (suc b))) e, not_reserved (is_reserved m) y))), refl, d ∙ ap (λ b. suc (suc (suc b))) e)
added k (listing a is o z (exporting ns)) b j n None h e d y = ((h.0, opened_exports o ns _ a z (h.1), (h.2, (e, d ∙ ap suc e))), refl, d ∙ ap suc e)
added k (listing a is o z (exporting ns)) b j n (Some m) h e d y = ((h.0, opened_exports o ns _ a z (h.1), (h.2, (e, d ∙ ap (λ b. suc (suc (suc b))) e))), refl, d ∙ ap (λ b. suc (suc (suc b))) e)

added_spelled : (r : Listing) (b j : ℕ) (n : Bytes) (m : Option Bytes) (l : Tokens) → spell_listing r (Name n ∷ spell_as m l) ≡ spell_pair (add_name r b j n m) l
added_spelled (listing a is o z (importing ns)) b j n None l = refl
added_spelled (listing a is o z (importing ns)) b j n (Some m) l = refl
added_spelled (listing a is o z (exporting ns)) b j n None l = refl
added_spelled (listing a is o z (exporting ns)) b j n (Some m) l = refl

module _ (q p : Tokens) (i : ℕ) where
  k_if : (b : Bool) (s : Step) → (b ≡ true → FitsStep q p i s) → FitsStep q p i (if b then s else fault)
  k_if true s h = h refl
  k_if false s h = tt

  k_unless : (b : Bool) (s : Step) → (b ≡ false → FitsStep q p i s) → FitsStep q p i (if b then fault else s)
  k_unless true s h = tt
  k_unless false s h = h refl

module _ (q p : Tokens) (i : ℕ) (k : Stack) where
  pub k_alias : (a : ℕ) (w : Wrap) (is : Items) (n : ℕ) (b : Bytes) → FitsMode k (after_alias a w is n b) i → (x : TokenKind) → Stands p k (λ l. spell_mode (after_alias a w is n b) (x ∷ l)) → FitsStep q p i (alias_step k a w is n b x)
  k_alias a w is n b h (Punct Assign) s = let y = typing_at true (suc (suc (suc n))) (suc i) (ap suc (h.1)) in ((h.0, y.0, y.1), s)
  k_alias a w is n b h _ s = tt

  pub k_import : (a : ℕ) (is : Items) → FitsMode k (after_import a is) i → (x : TokenKind) → Stands p k (λ l. spell_mode (after_import a is) (x ∷ l)) → FitsStep q p i (import_step i k a is x)
  k_import a is h (Str b) s = ((h.0, refl, tt, ap (λ j. suc (suc j)) (h.1)), s)
  k_import a is h (Name n) s = k_unless q p i (is_reserved n) (go k (import_word a is n)) (λ e. ((h.0, e, ap suc (h.1)), s))
  k_import a is h (Punct OpenBrace) s = (((h.0, h.1, tt), ap suc refl), s)
  k_import a is h _ s = tt

  pub k_from : (a : ℕ) (is : Items) (m : ImportForm) → FitsMode k (after_list a is m) i → (x : TokenKind) → Stands p k (λ l. spell_mode (after_list a is m) (x ∷ l)) → FitsStep q p i (from_step k a is m x)
  k_from a is m h (Name n) s =
      k_if q p i (bytes_eq n (codes "from")) (go k (after_from a is m)) (λ e. (
        (h.0, h.1, h.2, ap suc (h.3) ∙ sym (stop_from m (h.2) (suc a))),
        stands_same p k (λ l. spell_items is (import_token ∷ spell_before m (Name n ∷ l))) (λ l. spell_items is (import_token ∷ spell_import m l))
            (λ l. ap (λ z. spell_items is (import_token ∷ z)) (ap (λ n. spell_before m (Name n ∷ l)) (sym (is_word n (codes "from") e)) ∙ spell_from m (h.2) l)) s,
      ))
  k_from a is m h _ s = tt

  pub k_import_word : (a : ℕ) (is : Items) (n : Bytes) → FitsMode k (import_word a is n) i → (x : TokenKind) → Stands p k (λ l. spell_mode (import_word a is n) (x ∷ l)) → FitsStep q p i (import_word_step i k a is n x)
  k_import_word a is n h (Punct OpenBrace) s =
      k_if q p i (bytes_eq n (codes "type")) (go k (names_start (listing a is opens_types i (importing no_imported)))) (λ e. (
        ((h.0, h.2, tt), refl),
        stands_same p k (λ l. spell_items is (import_token ∷ Name n ∷ Punct OpenBrace ∷ l)) (λ l. spell_items is (import_token ∷ type_word ∷ Punct OpenBrace ∷ l))
            (λ l. ap (λ n. spell_items is (import_token ∷ Name n ∷ Punct OpenBrace ∷ l)) (sym (is_word n (codes "type") e))) s,
      ))
  k_import_word a is n h (Punct Comma) s = ((h.0, h.1, ap suc (h.2)), s)
  k_import_word a is n h x s = k_from a is (import_default n) (h.0, h.1, refl, h.2) x s

  pub k_import_comma : (a : ℕ) (is : Items) (n : Bytes) → FitsMode k (import_comma a is n) i → (x : TokenKind) → Stands p k (λ l. spell_mode (import_comma a is n) (x ∷ l)) → FitsStep q p i (import_comma_step i k a is n x)
  k_import_comma a is n h (Punct OpenBrace) s = (((h.0, (h.1, h.2), tt), refl), s)
  k_import_comma a is n h _ s = tt

  pub k_source : (a : ℕ) (is : Items) (m : ImportForm) → FitsMode k (after_from a is m) i → (x : TokenKind) → Stands p k (λ l. spell_mode (after_from a is m) (x ∷ l)) → FitsStep q p i (source_step k a is m x)
  k_source a is m h (Str b) s = ((h.0, refl, h.1, ap (λ j. suc (suc j)) (h.3)), s)
  k_source a is m h _ s = tt

  pub k_end_item : (a : ℕ) (is : Items) (y : ItemForm) → FitsMode k (item_end a is y) i → (x : TokenKind) → Stands p k (λ l. spell_mode (item_end a is y) (x ∷ l)) → FitsStep q p i (end_item i k a is y x)
  k_end_item a is y h (Punct Semicolon) s =
      k_item q p i k a is y (h.0) (h.2) (h.3) (stands_same p k (λ l. spell_items is (spell_short y (Punct Semicolon ∷ l))) (λ l. spell_items is (spell_item_form y l)) (λ l. ap (spell_items is) (spell_ended y (h.1) l)) s)
  k_end_item a is y h _ s = tt

  -- the brace at i ends a list of names
  k_end_names : (a : ℕ) (is : Items) (o : Opening) (z : ℕ) (ns : Names) (c : Bool) → FitsTop k a is → FitsOpening o ns a z → FitsNames ns (suc z) → i ≡ bump c (stop_names ns (suc z)) → CommaFits c (has_names (listing a is o z ns)) →
      Stands p k (λ l. spell_items is (spell_opening o (Punct OpenBrace ∷ spell_names ns (opt c (Punct Comma) (Punct CloseBrace ∷ l))))) → FitsStep q p i (end_names i k (listing a is o z ns) c)
  k_end_names a is opens_names z (importing ns) c t o f j d s =
      let g = import_list_fits z i ns c (suc a) o f j d in ((t, g, refl, g.1 ∙ refl), s)
  k_end_names a is (opens_both n) z (importing ns) c t o f j d s =
      let g = import_list_fits z i ns c (suc (suc (suc a))) (o.1) f j d in ((t, (o.0, g), refl, g.1), s)
  k_end_names a is opens_types z (importing ns) c t o f j d s =
      let g = import_list_fits z i ns c (suc (suc a)) o f j d in ((t, g, refl, g.1), s)
  k_end_names a is (opens_exports b) z (exporting ns) c t o f j d s =
      let g = export_list_fits z i ns c (bump b (suc a)) o f j d in ((t, g, g.1), s)
  k_end_names a is opens_names z (exporting ns) c t o f j d s = absurd o
  k_end_names a is (opens_both n) z (exporting ns) c t o f j d s = absurd o
  k_end_names a is opens_types z (exporting ns) c t o f j d s = absurd o
  k_end_names a is (opens_exports b) z (importing ns) c t o f j d s = absurd o

  pub k_names : (r : Listing) → FitsMode k (names_start r) i → (x : TokenKind) → Stands p k (λ l. spell_mode (names_start r) (x ∷ l)) → FitsStep q p i (names_step i k r x)
  k_names (listing a is o z ns) h (Punct CloseBrace) s =
      k_end_names a is o z ns (has_names (listing a is o z ns)) (h.0.0) (h.0.1) (h.0.2) (h.1 ∙ begun_stop a is o z ns (suc z)) (λ e. e)
      (stands_same p k (λ l. spell_items is (spell_opening o (Punct OpenBrace ∷ spell_begun_names ns (Punct CloseBrace ∷ l)))) _ (λ l. ap (λ l. spell_items is (spell_opening o (Punct OpenBrace ∷ l))) (begun_spelled a is o z ns (Punct CloseBrace ∷ l))) s)
  k_names r h (Name n) s = ((h.0, h.1, refl), s)
  k_names r h _ s = tt

  pub k_pair : (r : Listing) → FitsMode k (after_pair r) i → (x : TokenKind) → Stands p k (λ l. spell_pair r (x ∷ l)) → FitsStep q p i (pair_step i k r x)
  k_pair (listing a is o z ns) h (Punct CloseBrace) s = k_end_names a is o z ns false (h.0.0) (h.0.1) (h.0.2) (h.2) (λ e. absurd (false≢true e)) s
  k_pair (listing a is o z (importing (more_imported ns n))) h (Punct Comma) s = ((h.0, ap suc (h.2)), s)
  k_pair (listing a is o z (importing no_imported)) h (Punct Comma) s = absurd (false≢true (h.1))
  k_pair (listing a is o z (exporting (more_exported ns n))) h (Punct Comma) s = ((h.0, ap suc (h.2)), s)
  k_pair (listing a is o z (exporting no_exported)) h (Punct Comma) s = absurd (false≢true (h.1))
  k_pair r h _ s = tt

  pub k_name : (r : Listing) (b : ℕ) (n : Bytes) → FitsMode k (after_name r b n) i → (x : TokenKind) → Stands p k (λ l. spell_mode (after_name r b n) (x ∷ l)) → FitsStep q p i (name_step i k r b n x)
  k_name r b n h (Name m) s =
      k_if q p i (bytes_eq m (codes "as")) (go k (after_as r b n)) (λ e. (
        (h.0, h.1, ap suc (h.2)),
        stands_same p k (λ l. spell_listing r (Name n ∷ Name m ∷ l)) (λ l. spell_listing r (Name n ∷ as_token ∷ l)) (λ l. ap (λ m. spell_listing r (Name n ∷ Name m ∷ l)) (sym (is_word m (codes "as") e))) s,
      ))
  k_name r b n h x s =
      k_if q p i (may_name r n) (pair_step i k (add_name r b i n None) x) (λ e. k_pair (add_name r b i n None) (added k r b i n None (h.0) (h.1) (h.2) e) x
      (stands_same p k (λ l. spell_listing r (Name n ∷ x ∷ l)) (λ l. spell_pair (add_name r b i n None) (x ∷ l)) (λ l. added_spelled r b i n None (x ∷ l)) s))

  pub k_as : (r : Listing) (b : ℕ) (n : Bytes) → FitsMode k (after_as r b n) i → (x : TokenKind) → Stands p k (λ l. spell_mode (after_as r b n) (x ∷ l)) → FitsStep q p i (as_step i k r b n x)
  k_as r b n h (Name m) s =
      k_if q p i (may_name r m) (go k (after_pair (add_name r b (suc i) n (Some m)))) (λ e. (
        added k r b (suc i) n (Some m) (h.0) (h.1) (ap suc (h.2)) e,
        stands_same p k (λ l. spell_listing r (Name n ∷ as_token ∷ Name m ∷ l)) (λ l. spell_pair (add_name r b (suc i) n (Some m)) l) (λ l. added_spelled r b (suc i) n (Some m) l) s,
      ))
  k_as r b n h _ s = tt

  pub k_export_type : (a : ℕ) (is : Items) (b : ℕ) → FitsMode k (export_type a is b) i → (x : TokenKind) → Stands p k (λ l. spell_mode (export_type a is b) (x ∷ l)) → FitsStep q p i (export_type_step i k a is b x)
  k_export_type a is b h (Name n) s = k_if q p i (may_alias n) (go k (after_alias a exported_item is b n)) (λ e. (((h.0, refl, h.1, (alias_name n e).0, (alias_name n e).1), ap suc (h.2)), s))
  k_export_type a is b h (Punct OpenBrace) s = (((h.0, h.2 ∙ ap suc (h.1), tt), refl), s)
  k_export_type a is b h _ s = tt

  pub k_exports : (a : ℕ) (is : Items) (o : Bool) (ns : ExportList) → FitsMode k (after_exports a is o ns) i → (x : TokenKind) → Stands p k (λ l. spell_mode (after_exports a is o ns) (x ∷ l)) → FitsStep q p i (exports_step i k a is o ns x)
  k_exports a is o ns h (Name n) s =
      k_if q p i (bytes_eq n (codes "from")) (go k (exports_from a is o ns)) (λ e. (
        (h.0, h.1, ap suc (h.2)),
        stands_same p k (λ l. spell_items is (export_token ∷ opt o type_word (spell_export_list ns (Name n ∷ l)))) (λ l. spell_items is (export_token ∷ opt o type_word (spell_export_list ns (from_word ∷ l))))
            (λ l. ap (λ n. spell_items is (export_token ∷ opt o type_word (spell_export_list ns (Name n ∷ l)))) (sym (is_word n (codes "from") e))) s,
      ))
  k_exports a is o ns h x s = k_if q p i (are_local ns) (end_item i k a is (exports (export_names o ns)) x) (λ e. k_end_item a is (exports (export_names o ns)) (h.0, refl, (local_is ns e, h.1), ap suc (h.2)) x s)

  pub k_exports_from : (a : ℕ) (is : Items) (o : Bool) (ns : ExportList) → FitsMode k (exports_from a is o ns) i → (x : TokenKind) → Stands p k (λ l. spell_mode (exports_from a is o ns) (x ∷ l)) → FitsStep q p i (exports_from_step k a is o ns x)
  k_exports_from a is o ns h (Str b) s = ((h.0, refl, h.1, ap (λ j. suc (suc j)) (h.2)), s)
  k_exports_from a is o ns h _ s = tt

  k_export_word : (a : ℕ) (is : Items) → FitsMode k (after_export a is) i → (n : Bytes) (w : StatementWord) → IsStatement w n → Stands p k (λ l. spell_items is (export_token ∷ Name n ∷ l)) → FitsStep q p i (export_word i k a is n w)
  k_export_word a is h n (binds w) e s = ((((h.0, h.1), stack_bottom k (h.0.0)), refl, refl), (tt, stands_same p k _ _ (λ l. ap (λ n. spell_items is (export_token ∷ Name n ∷ l)) e) s))
  k_export_word a is h n begins_function e s = ((((h.0, h.1), stack_bottom k (h.0.0)), refl, refl), (tt, stands_same p k _ _ (λ l. ap (λ n. spell_items is (export_token ∷ Name n ∷ l)) e) s))
  k_export_word a is h n w e s = other (bytes_eq n (codes "type")) refl
    where
      other : (b : Bool) → bytes_eq n (codes "type") ≡ b → FitsStep q p i (if b then go k (export_type a is i) else if bytes_eq n (codes "default") then go k (after_default a is) else fault)
      other true e = ((h.0, h.1, refl), stands_same p k _ _ (λ l. ap (λ n. spell_items is (export_token ∷ Name n ∷ l)) (sym (is_word n (codes "type") e))) s)
      other false _ = k_if q p i (bytes_eq n (codes "default")) (go k (after_default a is)) (λ e. ((h.0, ap suc (h.1)), stands_same p k _ _ (λ l. ap (λ n. spell_items is (export_token ∷ Name n ∷ l)) (sym (is_word n (codes "default") e))) s))

  pub k_export : (a : ℕ) (is : Items) → FitsMode k (after_export a is) i → (x : TokenKind) → Stands p k (λ l. spell_mode (after_export a is) (x ∷ l)) → FitsStep q p i (export_step i k a is x)
  k_export a is h (Name n) s = k_export_word a is h n (statement_word n) (statement_is n) s
  k_export a is h (Punct OpenBrace) s = (((h.0, h.1, tt), refl), s)
  k_export a is h _ s = tt

  k_plain : (d : Stack) (x : TokenKind) → FitsStack d i → takes_simple d true ≡ true → starts_plain x ≡ true → Stands p d (λ l. x ∷ l) → FitsStep q p i (want_step i (in_simple i evaluates ∷ d) x)
  k_plain d x h t e s = k_want q p i (in_simple i evaluates ∷ d) x ((t, refl), h) refl ((x, e, λ l. (l, refl)), s)

  k_top_word : (is : Items) → FitsTop k i is → (n : Bytes) (w : StatementWord) → statement_word n ≡ w → IsStatement w n → Stands p k (λ l. spell_items is (Name n ∷ l)) → FitsStep q p i (top_word i k is n w)
  k_top_word is t n (binds w) d e s = ((((t, refl), stack_bottom k (t.0)), refl, refl), (binder_apart w, stands_same p k _ _ (λ l. ap (λ n. spell_items is (Name n ∷ l)) e) s))
  k_top_word is t n begins_function d e s = ((((t, refl), stack_bottom k (t.0)), refl, refl), (λ l. refl, stands_same p k _ _ (λ l. ap (λ n. spell_items is (Name n ∷ l)) e) s))
  k_top_word is t n begins_import d e s = ((t, refl), stands_same p k _ _ (λ l. ap (λ n. spell_items is (Name n ∷ l)) e) s)
  k_top_word is t n begins_export d e s = ((t, refl), stands_same p k _ _ (λ l. ap (λ n. spell_items is (Name n ∷ l)) e) s)
  k_top_word is t n plain_word d e s = by (bytes_eq n (codes "type")) refl
    where
      by : (b : Bool) → bytes_eq n (codes "type") ≡ b → FitsStep q p i (if b then go k (after_type_word i is) else simple_word i (in_item i plain_item is ∷ k) n plain_word)
      by true e = ((t, refl), stands_same p k _ _ (λ l. ap (λ n. spell_items is (Name n ∷ l)) (sym (is_word n (codes "type") e))) s)
      by false e = k_plain (in_item i plain_item is ∷ k) (Name n) ((t, refl), stack_bottom k (t.0)) refl (ap is_plain_word d) (λ l. ap (λ b. b && begins_word l) e, s)
  k_top_word is t n w d e s = tt

  pub k_items : (is : Items) → FitsTop k i is → (x : TokenKind) → Stands q k (spell_items is) → Stands p k (λ l. spell_items is (x ∷ l)) → FitsStep q p i (items_step i k is x)
  k_items is t (Punct PlusPlus) r s = (t.1, t.2, at_bottom q k (spell_items is) (t.0) r)
  k_items is t (Name n) r s = k_top_word is t n (statement_word n) refl (statement_is n) s
  k_items is t (Punct OpenBrace) r s = tt
  k_items is t x r s = k_plain (in_item i plain_item is ∷ k) x ((t, refl), stack_bottom k (t.0)) refl refl (λ l. refl, s)

  pub k_type_word : (a : ℕ) (is : Items) → FitsMode k (after_type_word a is) i → (x : TokenKind) → Stands p k (λ l. spell_mode (after_type_word a is) (x ∷ l)) → FitsStep q p i (type_word_step i k a is x)
  k_type_word a is h (Name n) s = k_if q p i (may_alias n) (go k (after_alias a plain_item is a n)) (λ e. (((h.0, refl, refl, (alias_name n e).0, (alias_name n e).1), ap suc (h.1)), s))
  k_type_word a is h x s =
      let r : 10 ≤ 10 = omega arith in
      k_links q p i (in_simple a evaluates ∷ in_item a plain_item is ∷ k) (ex a i (variable (codes "type"))) no_link x ((refl, refl), ((h.0, refl), stack_bottom k (h.0.0))) refl
      (r, (refl, h.1, refl), tt, h.1) ((type_word, refl, λ l. (x ∷ l, refl)), (λ l. refl, s))

  k_default_word : (a : ℕ) (is : Items) → FitsMode k (after_default a is) i → (n : Bytes) (w : StatementWord) → statement_word n ≡ w → IsStatement w n → Stands p k (λ l. spell_mode (after_default a is) (Name n ∷ l)) → FitsStep q p i (default_word i k a is n w)
  k_default_word a is h n begins_function d e s =
      ((((h.0, h.1), stack_bottom k (h.0.0)), refl, refl), (tt, stands_same p k _ _ (λ l. ap (λ n. spell_items is (export_token ∷ default_token ∷ Name n ∷ l)) e) s))
  k_default_word a is h n w d e s = k_want q p i (in_default a is ∷ k) (Name n) ((h.0, h.1), stack_bottom k (h.0.0)) refl ((Name n, ap not_function_word d, λ l. (l, refl)), s)

  pub k_default : (a : ℕ) (is : Items) → FitsMode k (after_default a is) i → (x : TokenKind) → Stands p k (λ l. spell_mode (after_default a is) (x ∷ l)) → FitsStep q p i (default_step i k a is x)
  k_default a is h (Name n) s = k_default_word a is h n (statement_word n) refl (statement_is n) s
  k_default a is h x s = k_want q p i (in_default a is ∷ k) x ((h.0, h.1), stack_bottom k (h.0.0)) refl ((x, refl, λ l. (l, refl)), s)
