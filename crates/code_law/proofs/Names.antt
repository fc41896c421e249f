-- Lists of names in braces are read as such.
use Rattle.std.proofs.Common.{◌≡◌, refl, sym, ◌∙◌, ap, ap₂, ℕ, suc, Bool, true, false, Some, None, ◌∷◌, not}
use Rattle.std.proofs.lemmas.Bool.{false≢true}
use Rattle.js_token.specs.declared.token.TokenKind.{TokenKind}
use Rattle.js_token.specs.declared.token.TokenKind.TheVariants.{Name, Punct}
use Rattle.js_token.specs.declared.punct.Punct.TheVariants.{CloseBrace, Comma}
use Rattle.js_token.specs.Words.{is_reserved}
use Rattle.js_grammar.specs.Words.{Bytes, IsName}
use Rattle.js_grammar.specs.TypeSpelling.{Tokens, opt}
use Rattle.js_grammar.specs.TypeFits.{bump, CommaFits}
use Rattle.js_grammar.specs.Machine.{first}
use Rattle.js_grammar.specs.Items.{Imported, imported, Importeds, no_imported, more_imported, Exported, exported, Exporteds, no_exported, more_exported, Items, has_importeds, has_exporteds, spell_imported, spell_begun_imports, spell_importeds, spell_exported, spell_begun_exports, spell_exporteds, stop_imported, stop_begun_imports, stop_importeds, stop_exported, stop_begun_exports, stop_exporteds, FitsImported, FitsImporteds, FitsExported, FitsExporteds}
use Rattle.code_law.specs.Frames.{Opening, importing, exporting, Listing, listing, names_start, after_name, after_pair, Stack}
use Rattle.code_law.specs.Modules.{may_name, add_name, end_names, pair_step, name_step}
use Rattle.code_law.specs.Machine.{run, go_on}
use Rattle.code_law.proofs.Complete.{run-then}

abbrev ends_name : TokenKind → Bool
ends_name (Punct Comma) = true
ends_name (Punct CloseBrace) = true
ends_name _ = false

name_ends : (x : TokenKind) → ends_name x ≡ true → (i : ℕ) (k : Stack) (q : Listing) (p : ℕ) (n : Bytes) → may_name q n ≡ true → name_step i k q p n x ≡ pair_step i k (add_name q p i n None) x
name_ends (Name m) h i k q p n y = absurd (false≢true h)
name_ends x h i k q p n y = rw y refl

named : (n : Bytes) → IsName n → not (is_reserved n) ≡ true
named n h = ap not h

module _ (k : Stack) (a : ℕ) (is : Items) (q : Opening) (s : ℕ) where
  abbrev imports_so_far : Importeds → Listing
  imports_so_far ns = listing a is q s (importing ns)

  abbrev exports_so_far : Exporteds → Listing
  exports_so_far ns = listing a is q s (exporting ns)

  as_read : (i : ℕ) (ns : Importeds) (f : ℕ) (w n : Bytes) → IsName n → (l : Tokens) →
      run i k (names_start (imports_so_far ns)) (spell_imported (imported f f (Some w) n) l) ≡ run (suc (suc (suc i))) k (after_pair (imports_so_far (more_imported ns (imported i (suc (suc (suc i))) (Some w) n)))) l
  as_read i ns f w n h l = rw h refl

  c_imported : (y : Imported) (i : ℕ) → FitsImported y i → (ns : Importeds) (l : Tokens) → ends_name (first l) ≡ true →
      run i k (names_start (imports_so_far ns)) (spell_imported y l) ≡ go_on (stop_imported y i) (pair_step (stop_imported y i) k (imports_so_far (more_imported ns y)) (first l)) l
  c_imported (imported f t None n) i h ns l e =
      run-then (suc i) k (after_name (imports_so_far ns) i n) l ∙ ap (λ s. go_on (suc i) s l) (name_ends (first l) e (suc i) k (imports_so_far ns) i n (named n (h.2)))
      ∙ ap (λ y. go_on (suc i) (pair_step (suc i) k (imports_so_far (more_imported ns y)) (first l)) l) (ap₂ (λ f t. imported f t None n) (sym (h.0)) (sym (h.1)))
  c_imported (imported f t (Some w) n) i h ns l e =
      let z = suc (suc (suc i)) in
      as_read i ns f w n (h.2) l ∙ run-then z k (after_pair (imports_so_far (more_imported ns (imported i z (Some w) n)))) l
      ∙ ap (λ y. go_on z (pair_step z k (imports_so_far (more_imported ns y)) (first l)) l) (ap₂ (λ f t. imported f t (Some w) n) (sym (h.0)) (sym (h.1)))

  c_begun_imports : (ns : Importeds) (i : ℕ) → FitsImporteds ns i → (l : Tokens) →
      run i k (names_start (imports_so_far no_imported)) (spell_begun_imports ns l) ≡ run (stop_begun_imports ns i) k (names_start (imports_so_far ns)) l
  c_begun_imports no_imported i h l = refl
  c_begun_imports (more_imported ns y) i h l =
      let p = Punct Comma ∷ l in c_begun_imports ns i (h.0) (spell_imported y p) ∙ c_imported y (stop_begun_imports ns i) (h.1) ns p refl

  pub c_importeds : (ns : Importeds) (c : Bool) (i : ℕ) → FitsImporteds ns i → CommaFits c (has_importeds ns) → (l : Tokens) →
      run i k (names_start (imports_so_far no_imported)) (spell_importeds ns (opt c (Punct Comma) (Punct CloseBrace ∷ l)))
      ≡ go_on (bump c (stop_importeds ns i)) (end_names (bump c (stop_importeds ns i)) k (imports_so_far ns) c) (Punct CloseBrace ∷ l)
  c_importeds no_imported true i h c l = absurd (false≢true (c refl))
  c_importeds no_imported false i h c l = refl
  c_importeds (more_imported ns y) true i h c l =
      let p = Punct Comma ∷ Punct CloseBrace ∷ l in c_begun_imports ns i (h.0) (spell_imported y p) ∙ c_imported y (stop_begun_imports ns i) (h.1) ns p refl
  c_importeds (more_imported ns y) false i h c l =
      let p = Punct CloseBrace ∷ l in c_begun_imports ns i (h.0) (spell_imported y p) ∙ c_imported y (stop_begun_imports ns i) (h.1) ns p refl

  c_exported : (y : Exported) (i : ℕ) → FitsExported y i → (ns : Exporteds) (l : Tokens) → ends_name (first l) ≡ true →
      run i k (names_start (exports_so_far ns)) (spell_exported y l) ≡ go_on (stop_exported y i) (pair_step (stop_exported y i) k (exports_so_far (more_exported ns y)) (first l)) l
  c_exported (exported f t n None) i h ns l e =
      run-then (suc i) k (after_name (exports_so_far ns) i n) l ∙ ap (λ s. go_on (suc i) s l) (name_ends (first l) e (suc i) k (exports_so_far ns) i n refl)
      ∙ ap (λ y. go_on (suc i) (pair_step (suc i) k (exports_so_far (more_exported ns y)) (first l)) l) (ap₂ (λ f t. exported f t n None) (sym (h.0)) (sym (h.1)))
  c_exported (exported f t n (Some w)) i h ns l e =
      let z = suc (suc (suc i)) in
      run-then z k (after_pair (exports_so_far (more_exported ns (exported i z n (Some w))))) l
      ∙ ap (λ y. go_on z (pair_step z k (exports_so_far (more_exported ns y)) (first l)) l) (ap₂ (λ f t. exported f t n (Some w)) (sym (h.0)) (sym (h.1)))

  c_begun_exports : (ns : Exporteds) (i : ℕ) → FitsExporteds ns i → (l : Tokens) →
      run i k (names_start (exports_so_far no_exported)) (spell_begun_exports ns l) ≡ run (stop_begun_exports ns i) k (names_start (exports_so_far ns)) l
  c_begun_exports no_exported i h l = refl
  c_begun_exports (more_exported ns y) i h l =
      let p = Punct Comma ∷ l in c_begun_exports ns i (h.0) (spell_exported y p) ∙ c_exported y (stop_begun_exports ns i) (h.1) ns p refl

  pub c_exporteds : (ns : Exporteds) (c : Bool) (i : ℕ) → FitsExporteds ns i → CommaFits c (has_exporteds ns) → (l : Tokens) →
      run i k (names_start (exports_so_far no_exported)) (spell_exporteds ns (opt c (Punct Comma) (Punct CloseBrace ∷ l)))
      ≡ go_on (bump c (stop_exporteds ns i)) (end_names (bump c (stop_exporteds ns i)) k (exports_so_far ns) c) (Punct CloseBrace ∷ l)
  c_exporteds no_exported true i h c l = absurd (false≢true (c refl))
  c_exporteds no_exported false i h c l = refl
  c_exporteds (more_exported ns y) true i h c l =
      let p = Punct Comma ∷ Punct CloseBrace ∷ l in c_begun_exports ns i (h.0) (spell_exported y p) ∙ c_exported y (stop_begun_exports ns i) (h.1) ns p refl
  c_exporteds (more_exported ns y) false i h c l =
      let p = Punct CloseBrace ∷ l in c_begun_exports ns i (h.0) (spell_exported y p) ∙ c_exported y (stop_begun_exports ns i) (h.1) ns p refl
