-- The folder is read and the modules are walked, path by path.
use Rattle.std.proofs.Common.{◌≡◌, ℕ, List, [], ◌∷◌, ◌++◌, drop, Option, refl, sym, ap, ◌∙◌, subst}
use Rattle.std.specs.List.{AllByRecursion}
use Rattle.std.specs.List.Sorted.{IsStrictlySortedBy}
use Rattle.std.specs.Map.{keys_of}
use Rattle.std.specs.Ordering.{nat_cmp}
use Rattle.std.specs.Cmp.Lexicographic.{slice_cmp}
use Rattle.flow_values.specs.Path.{IsRising}
use Rattle.flow_base.specs.Program.{Bytes, Program}
use Rattle.check_values.specs.Rows.{Rows}
use Rattle.check_values.specs.declared.root.RootRow.{RootRow}
use Rattle.pending_edits.specs.declared.edit.Edit.{Edit}
use Rattle.pending_edits.specs.Pending.{with_text, MayBecome}
use Rattle.edited_root.specs.From.{texts_in}
use Rattle.edited_root.specs.Reading.{Gives}
use Rattle.edited_root.specs.Walk.{IsDraftOf, drafted, StandsBefore, Walks, GivesText, AreDrafts}
use Rattle.edited_root.specs.declared.walking.Draft.{Draft}
use Rattle.edited_root.proofs.Folders.{IsReadSoFar, nothing_read, one_read, all_read}
use Rattle.edited_root.proofs.Rooted.{keys_rising}
use Rattle.edited_root.proofs.Walked.{stands_first}

-- the program as far as it was walked
abbrev pub so_far : List RootRow → ℕ → List Draft → Program
so_far ms at drafts = drafted drafts ++ texts_in (drop at ms)

-- a walk stands as well in the program that it tells
stands_told : (ms : List RootRow) (program : Program) (paths : List Bytes) (at : ℕ) (drafts : List Draft) → StandsBefore ms program paths at drafts → StandsBefore ms (so_far ms at drafts) paths at drafts
stands_told ms program paths at drafts stands = subst (λ (p : Program). StandsBefore ms p paths at drafts) stands.is stands

pub first_read : (told : Option Program) (ms : List RootRow) (all rest : Rows Edit) (drafts : List Draft) → drafts ≡ [] → rest ≡ all → IsStrictlySortedBy (slice_cmp nat_cmp) (keys_of all)
    → IsReadSoFar told (texts_in ms) all (so_far ms 0 drafts) rest × StandsBefore ms (so_far ms 0 drafts) (keys_of rest) 0 drafts
first_read told ms all rest drafts none same sorted =
    let stands = stands_first ms (keys_of rest) drafts none in
    (nothing_read told (texts_in ms) all (so_far ms 0 drafts) rest (sym stands.is) same sorted, stands_told ms (texts_in ms) (keys_of rest) 0 drafts stands)

pub goes_on : (told : Option Program) (ms : List RootRow) (all : Rows Edit) (path : Bytes) (edit : Edit) (text : Option Bytes) (at mid next : ℕ) (old kept new : List Draft) (left rest : Rows Edit)
    → IsReadSoFar told (texts_in ms) all (so_far ms at old) left → StandsBefore ms (so_far ms at old) (keys_of left) at old → left ≡ (path, edit) ∷ rest → Gives told path edit text
    → Walks ms path at mid old kept → GivesText ms path text mid next kept new
    → IsReadSoFar told (texts_in ms) all (so_far ms next new) rest × StandsBefore ms (so_far ms next new) (keys_of rest) next new
goes_on told ms all path edit text at mid next old kept new left rest read stands is gives walks puts =
    let order : IsRising (path ∷ keys_of rest) = subst (λ (es : Rows Edit). IsRising (keys_of es)) is (keys_rising left read.sorted) in
    let here : StandsBefore ms (so_far ms at old) (path ∷ keys_of rest) at old = subst (λ (es : Rows Edit). StandsBefore ms (so_far ms at old) (keys_of es) at old) is stands in
    let after = puts (so_far ms at old) (keys_of rest) order (walks (so_far ms at old) (keys_of rest) order here) in
    (one_read told (texts_in ms) all path edit text (so_far ms at old) (so_far ms next new) left rest read is gives (sym after.is), stands_told ms (with_text (so_far ms at old) path text) (keys_of rest) next new after)

pub all_walked : (told : Option Program) (ms : List RootRow) (all : Rows Edit) (at : ℕ) (old new : List Draft) (rest : Rows Edit) → IsReadSoFar told (texts_in ms) all (so_far ms at old) rest → StandsBefore ms (so_far ms at old) (keys_of rest) at old
    → rest ≡ [] → ((program : Program) → StandsBefore ms program [] at old → AreDrafts ms program new) → MayBecome told (texts_in ms) all (drafted new)
all_walked told ms all at old new rest read stands none walks =
    let here : StandsBefore ms (so_far ms at old) [] at old = subst (λ (es : Rows Edit). StandsBefore ms (so_far ms at old) (keys_of es) at old) none stands in
    subst (MayBecome told (texts_in ms) all) (walks (so_far ms at old) here).is (all_read told (texts_in ms) all (so_far ms at old) rest read none)

pub all_right : (ms : List RootRow) (at : ℕ) (old new : List Draft) (rest : Rows Edit) → StandsBefore ms (so_far ms at old) (keys_of rest) at old → rest ≡ []
    → ((program : Program) → StandsBefore ms program [] at old → AreDrafts ms program new) → AllByRecursion (IsDraftOf ms) new
all_right ms at old new rest stands none walks =
    (walks (so_far ms at old) (subst (λ (es : Rows Edit). StandsBefore ms (so_far ms at old) (keys_of es) at old) none stands)).right
