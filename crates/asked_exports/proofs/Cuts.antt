-- The rows that are asked for tell what is asked.
use Rattle.std.proofs.Common.{◌≡◌, Bool, true, false, ◌||◌, List, [], ◌∷◌, ◌++◌, Option, Some, None, unwrap_or, refl, sym, ap, ◌∙◌, cond, option_map, bytes_eq}
use Rattle.check_values.specs.Rows.{Bytes, Rows, row_at, is_among}
use Rattle.check_values.specs.declared.signatures.Export.{Export}
use Rattle.check_values.specs.declared.signatures.Export.TheVariants as export
use Rattle.check_values.specs.declared.signatures.Sig.{Sig}
use Rattle.type_names.specs.Names.{Name}
use Rattle.merged_signatures.specs.Job.{told_by}
use Rattle.merged_signatures.specs.Repeats.{name_eq}
use Rattle.merged_signatures.proofs.Names.{bytes_same, bytes_itself, same_name}
use Rattle.asked_exports.specs.Asked.{name_of, asked, asked_of, row_with, rows_of, is_small, cut, without, cut_all}
use Rattle.asked_exports.specs.Enough.{told_at, AskedJobsTellTheSame}
use Rattle.asked_exports.proofs.Enough.{among, asked_is_enough}

-- ---- the rows of names that are asked

-- a row in front of others
row_front : (rows : Rows Export) (word name : Bytes) (o : Option Export) → row_at (row_with word o ++ rows) name ≡ cond (bytes_eq word name) (elim o as (λ _. Option Export) [ None ↦ row_at rows name | Some e ↦ Some e ]) (row_at rows name)
row_front rows word name None = go (bytes_eq word name)
  where
    go : (b : Bool) → row_at rows name ≡ cond b (row_at rows name) (row_at rows name)
    go true = refl
    go false = refl
row_front rows word name (Some e) = refl

-- a name that the whole lacks, the rows lack
none_stays : (exports : Rows Export) (names : List Bytes) (name : Bytes) → row_at exports name ≡ None → row_at (rows_of exports names) name ≡ None
none_stays exports [] name none = refl
none_stays exports (word ∷ names) name none = row_front (rows_of exports names) word name (row_at exports word) ∙ go (bytes_eq word name) refl (none_stays exports names name none)
  where
    go : (b : Bool) → bytes_eq word name ≡ b → row_at (rows_of exports names) name ≡ None
        → cond b (elim (row_at exports word) as (λ _. Option Export) [ None ↦ row_at (rows_of exports names) name | Some e ↦ Some e ]) (row_at (rows_of exports names) name) ≡ None
    go true e rest = ap (λ (o : Option Export). elim o as (λ _. Option Export) [ None ↦ row_at (rows_of exports names) name | Some e ↦ Some e ]) (ap (row_at exports) (bytes_same word name e) ∙ none) ∙ rest
    go false e rest = rest

-- and one that is asked has its row
asked_row : (exports : Rows Export) (names : List Bytes) (name : Bytes) → is_among names name ≡ true → row_at (rows_of exports names) name ≡ row_at exports name
asked_row exports [] name is = absurd (let f : false ≡ true = is in cc)
asked_row exports (word ∷ names) name is = row_front (rows_of exports names) word name (row_at exports word) ∙ go (bytes_eq word name) refl (λ h. asked_row exports names name h)
  where
    later : (b : Bool) → bytes_eq name word ≡ b → bytes_eq word name ≡ false → b || is_among names name ≡ true → is_among names name ≡ true
    later true e off h = absurd (let f : true ≡ false = sym (bytes_itself word) ∙ (ap (bytes_eq word) (sym (bytes_same name word e)) ∙ off) in cc)
    later false e off h = h

    here : (o : Option Export) → row_at exports name ≡ o → (elim o as (λ _. Option Export) [ None ↦ row_at (rows_of exports names) name | Some e ↦ Some e ]) ≡ o
    here None none = none_stays exports names name none
    here (Some e) at = refl

    go : (b : Bool) → bytes_eq word name ≡ b → (is_among names name ≡ true → row_at (rows_of exports names) name ≡ row_at exports name)
        → cond b (elim (row_at exports word) as (λ _. Option Export) [ None ↦ row_at (rows_of exports names) name | Some e ↦ Some e ]) (row_at (rows_of exports names) name) ≡ row_at exports name
    go true e rest =
        ap (λ (o : Option Export). elim o as (λ _. Option Export) [ None ↦ row_at (rows_of exports names) name | Some e ↦ Some e ]) (ap (row_at exports) (bytes_same word name e))
        ∙ here (row_at exports name) refl
    go false e rest = rest (later (bytes_eq name word) refl e is)

pub cut_tells : (s : Sig) (names : List Bytes) (name : Bytes) → is_among names name ≡ true → told_by (cut names s) name ≡ told_by s name
cut_tells s names name is = go (is_small s)
  where
    go : (b : Bool) → told_by (cond b s (record { broken = s.broken; exports = rows_of s.exports names; aliases = [] })) name ≡ told_by s name
    go true = refl
    go false = ap (λ (o : Option Export). unwrap_or o export.Unknown) (asked_row s.exports names name is)

-- ---- the names of each module

among_of : (names : List Name) (path name : Bytes) → among (path, name) names ≡ true → is_among (asked_of names path) name ≡ true
among_of [] path name is = absurd (let f : false ≡ true = is in cc)
among_of (n ∷ names) path name is = go (name_eq (path, name) n) refl is (among_of names path name)
  where
    behind : (b : Bool) → is_among (asked_of names path) name ≡ true → is_among (cond b (n.1 ∷ []) [] ++ asked_of names path) name ≡ true
    behind true h = or_true (bytes_eq name n.1) _ h
      where
        or_true : (a b : Bool) → b ≡ true → a || b ≡ true
        or_true true b e = refl
        or_true false b e = e
    behind false h = h

    front : (b : Bool) → b ≡ true → n.1 ≡ name → is_among (cond b (n.1 ∷ []) [] ++ asked_of names path) name ≡ true
    front true e same = ap (λ (b : Bool). b || is_among (asked_of names path) name) (ap (bytes_eq name) same ∙ bytes_itself name)
    front false e same = absurd (let f : false ≡ true = e in cc)

    go : (b : Bool) → name_eq (path, name) n ≡ b → b || among (path, name) names ≡ true → (among (path, name) names ≡ true → is_among (asked_of names path) name ≡ true) → is_among (name_of path n ++ asked_of names path) name ≡ true
    go true e h rest =
        let same : (path, name) ≡ n = same_name (path, name) n e in
        front (bytes_eq n.0 path) (ap (λ (m : Name). bytes_eq m.0 path) (sym same) ∙ bytes_itself path) (ap (λ (m : Name). m.1) (sym same))
    go false e h rest = behind (bytes_eq n.0 path) (rest h)

-- ---- all signatures outside

pub cut_all_tells : (names : Bytes → List Bytes) (rows : Rows Sig) (path name : Bytes) → is_among (names path) name ≡ true → told_at (cut_all names rows) path name ≡ told_at rows path name
cut_all_tells names [] path name is = refl
cut_all_tells names ((home, s) ∷ rows) path name is = go (bytes_eq home path) refl (λ h. cut_all_tells (without home names) rows path name h)
  where
    go : (b : Bool) → bytes_eq home path ≡ b → (is_among (without home names path) name ≡ true → told_at (cut_all (without home names) rows) path name ≡ told_at rows path name)
        → option_map (λ t. told_by t name) (cond b (Some (cut (names home) s)) (row_at (cut_all (without home names) rows) path)) ≡ option_map (λ t. told_by t name) (cond b (Some s) (row_at rows path))
    go true e rest = ap (λ (x : Export). Some x) (cut_tells s (names home) name (ap (λ (p : Bytes). is_among (names p) name) (bytes_same home path e) ∙ is))
    go false e rest = rest (ap (λ (b : Bool). is_among (cond b [] (names path)) name) e ∙ is)

pub asked_jobs_tell : AskedJobsTellTheSame
asked_jobs_tell job = asked_is_enough job (cut_all (asked_of (asked job)) job.outside) (λ path name asks. cut_all_tells (asked_of (asked job)) job.outside path name (among_of (asked job) path name asks))
