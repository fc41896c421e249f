-- What was read of a folder, and a folder that gives it.
use Rattle.std.proofs.Common.{◌≡◌, ◌≢◌, Bool, List, [], ◌∷◌, Option, Some, None, refl, sym, ap, ◌∙◌, subst, inl, inr, if◌then◌else◌}
use Rattle.std.specs.Prelude.{nat_eq}
use Rattle.std.specs.List.{AllByRecursion}
use Rattle.std.specs.List.Sorted.{IsStrictlySortedBy}
use Rattle.std.specs.Map.{keys_of}
use Rattle.std.specs.Ordering.{nat_cmp}
use Rattle.std.specs.Cmp.Lexicographic.{slice_cmp, pointwise, bytes_decides}
use Rattle.std.specs.declared.cmp.Ordering.TheVariants.{Less}
use Rattle.std.proofs.lemmas.Bool.{cases_Bool}
use Rattle.flow_base.specs.Program.{Bytes, Program, text_at}
use Rattle.flow_base.specs.Outside.{WhereTold}
use Rattle.flow_base.proofs.Rising.{found_itself, not_below_itself}
use Rattle.check_values.specs.Rows.{Rows}
use Rattle.pending_edits.specs.declared.edit.Edit.{Edit}
use Rattle.pending_edits.specs.declared.edit.Edit.TheVariants.{Put, Touch, Delete}
use Rattle.pending_edits.specs.Pending.{with_text, edited, MayBecome, IsTouched}
use Rattle.flow_base.specs.Seen.{FolderSeen}
use Rattle.flow_base.specs.Causes.{raised}
use Rattle.edited_root.specs.Reading.{Gives, IsUnread}
use Rattle.edited_root.specs.declared.halt.Halt.{Halt}
use Rattle.edited_root.specs.declared.halt.Halt.TheVariants.{Unread, NoMemory}

-- what a folder gave for paths
abbrev pub Answers : Type 0
Answers = List (Bytes × Option Bytes)

-- a folder gives it
abbrev pub GivesAll : Program → Answers → Type 0
GivesAll folder answers = AllByRecursion (λ a. text_at folder a.0 ≡ a.1) answers

-- the path is none of these
abbrev pub IsNew : Answers → Bytes → Type 0
IsNew answers path = AllByRecursion (λ a. a.0 ≢ path) answers

abbrev pub AreOnce : Answers → Type 0
AreOnce [] = Unit {0}
AreOnce (a ∷ answers) = IsNew answers a.0 × AreOnce answers

-- ---- a folder that gives what was read

abbrev folder_of : Answers → Program
folder_of [] = []
folder_of ((path, None) ∷ answers) = folder_of answers
folder_of ((path, Some text) ∷ answers) = (path, text) ∷ folder_of answers

behind : (path text other : Bytes) (program : Program) → path ≢ other → text_at ((path, text) ∷ program) other ≡ text_at program other
behind path text other program ne = elim (cases_Bool (pointwise nat_eq path other)) [
  | inl same ↦ absurd (ne ((bytes_decides path other).0 same))
  | inr differs ↦ ap (λ (b : Bool). if b then Some text else text_at program other) differs
]

lacks : (answers : Answers) (path : Bytes) → IsNew answers path → text_at (folder_of answers) path ≡ None
lacks [] path new = refl
lacks ((other, None) ∷ answers) path new = lacks answers path new.1
lacks ((other, Some text) ∷ answers) path new = behind other text path (folder_of answers) new.0 ∙ lacks answers path new.1

also_gives : (path text : Bytes) (folder : Program) (answers : Answers) → IsNew answers path → GivesAll folder answers → GivesAll ((path, text) ∷ folder) answers
also_gives path text folder [] new gives = tt
also_gives path text folder (a ∷ answers) new gives = (behind path text a.0 folder (λ same. new.0 (sym same)) ∙ gives.0, also_gives path text folder answers new.1 gives.1)

gives_all : (answers : Answers) → AreOnce answers → GivesAll (folder_of answers) answers
gives_all [] once = tt
gives_all ((path, None) ∷ answers) once = (lacks answers path once.0, gives_all answers once.1)
gives_all ((path, Some text) ∷ answers) once = (found_itself (path, text) (folder_of answers), also_gives path text (folder_of answers) answers once.0 (gives_all answers once.1))

-- ---- as far as the folder was read

pub record IsReadSoFar (told : Option Program) (start : Program) (all : Rows Edit) (texts : Program) (rest : Rows Edit) : Type 0 where
  pub answers : Answers
  pub so_far : (folder : Program) → GivesAll folder answers → edited folder start all ≡ edited folder texts rest
  pub told_so : WhereTold told (λ its. GivesAll its answers)
  pub new : AllByRecursion (λ e. IsNew answers e.0) rest
  pub once : AreOnce answers
  pub sorted : IsStrictlySortedBy (slice_cmp nat_cmp) (keys_of rest)
  pub touched : (path : Bytes) → IsTouched rest path → IsTouched all path

none_told : (told : Option Program) → WhereTold told (λ its. GivesAll its [])
none_told None = tt
none_told (Some its) = tt

none_new : (rest : Rows Edit) → AllByRecursion (λ e. IsNew [] e.0) rest
none_new [] = tt
none_new (e ∷ rest) = (tt, none_new rest)

pub nothing_read : (told : Option Program) (start : Program) (all : Rows Edit) (texts : Program) (rest : Rows Edit) → texts ≡ start → rest ≡ all → IsStrictlySortedBy (slice_cmp nat_cmp) (keys_of all) → IsReadSoFar told start all texts rest
nothing_read told start all texts rest same whole sorted =
    subst (λ (p : Program). IsReadSoFar told start all p rest) (sym same) (subst (λ (es : Rows Edit). IsReadSoFar told start all start es) (sym whole) (record {
      answers = [];
      so_far = λ folder gives. refl;
      told_so = none_told told;
      new = none_new all;
      once = tt;
      sorted = sorted;
      touched = λ path is. is;
    }))

-- a path that is below all others differs from each
apart : (path : Bytes) (found : Option Bytes) (answers : Answers) (rest : Rows Edit) → AllByRecursion (λ other. slice_cmp nat_cmp path other ≡ Less) (keys_of rest)
    → AllByRecursion (λ e. IsNew answers e.0) rest → AllByRecursion (λ e. IsNew ((path, found) ∷ answers) e.0) rest
apart path found answers [] below new = tt
apart path found answers (e ∷ rest) below new =
    (((λ same. not_below_itself path (subst (λ (p : Bytes). slice_cmp nat_cmp path p ≡ Less) (sym same) below.0)), new.0), apart path found answers rest below.1 new.1)

also_told : (told : Option Program) (path : Bytes) (found : Option Bytes) (answers : Answers) → WhereTold told (λ its. GivesAll its answers) → WhereTold told (λ its. found ≡ text_at its path)
    → WhereTold told (λ its. GivesAll its ((path, found) ∷ answers))
also_told None path found answers so read = tt
also_told (Some its) path found answers so read = (sym read, so)

module _ (told : Option Program) (start : Program) (all : Rows Edit) (path : Bytes) (found : Option Bytes) (texts : Program) (rest : Rows Edit) where
  step : (edit : Edit) → Gives told path edit found → IsReadSoFar told start all texts ((path, edit) ∷ rest) → IsReadSoFar told start all (with_text texts path found) rest
  unfolding IsStrictlySortedBy
  step (Put text) gives r = record {
    answers = r.answers;
    so_far = λ folder all_given. r.so_far folder all_given ∙ ap (λ (t : Option Bytes). edited folder (with_text texts path t) rest) (sym gives);
    told_so = r.told_so;
    new = r.new.1;
    once = r.once;
    sorted = r.sorted.1;
    touched = λ path is. r.touched path (inr is);
  }
  step Delete gives r = record {
    answers = r.answers;
    so_far = λ folder all_given. r.so_far folder all_given ∙ ap (λ (t : Option Bytes). edited folder (with_text texts path t) rest) (sym gives);
    told_so = r.told_so;
    new = r.new.1;
    once = r.once;
    sorted = r.sorted.1;
    touched = λ path is. r.touched path (inr is);
  }
  step Touch gives r = record {
    answers = (path, found) ∷ r.answers;
    so_far = λ folder all_given. r.so_far folder all_given.1 ∙ ap (λ (t : Option Bytes). edited folder (with_text texts path t) rest) all_given.0;
    told_so = also_told told path found r.answers r.told_so gives;
    new = apart path found r.answers rest r.sorted.0 r.new.1;
    once = (r.new.0, r.once);
    sorted = r.sorted.1;
    touched = λ path is. r.touched path (inr is);
  }

pub one_read : (told : Option Program) (start : Program) (all : Rows Edit) (path : Bytes) (edit : Edit) (found : Option Bytes) (texts texts' : Program) (left rest : Rows Edit)
    → IsReadSoFar told start all texts left → left ≡ (path, edit) ∷ rest → Gives told path edit found → texts' ≡ with_text texts path found → IsReadSoFar told start all texts' rest
one_read told start all path edit found texts texts' left rest r is gives now =
    subst (λ (p : Program). IsReadSoFar told start all p rest) (sym now)
    (step told start all path found texts rest edit gives (subst (λ (es : Rows Edit). IsReadSoFar told start all texts es) is r))

pub all_read : (told : Option Program) (start : Program) (all : Rows Edit) (texts : Program) (rest : Rows Edit) → IsReadSoFar told start all texts rest → rest ≡ [] → MayBecome told start all texts
all_read told start all texts rest r is = go told (subst (λ (es : Rows Edit). IsReadSoFar told start all texts es) is r)
  where
    go : (told : Option Program) → IsReadSoFar told start all texts [] → MayBecome told start all texts
    go None r = (folder_of r.answers, tt, sym (r.so_far (folder_of r.answers) (gives_all r.answers r.once)))
    go (Some its) r = (its, refl, sym (r.so_far its r.told_so))

-- the folder failed at one of the paths
pub unread_one : (told : Option Program) (start : Program) (all : Rows Edit) (texts : Program) (left rest : Rows Edit) (path : Bytes) (edit : Edit) (before mid now : FolderSeen) (halt : Halt) → IsReadSoFar told start all texts left → left ≡ (path, edit) ∷ rest
    → mid.faults ≡ before.faults → IsUnread ((path, edit) ∷ []) mid now halt → IsUnread all before now halt
unread_one told start all texts left rest path edit before mid now (Unread at) r is quiet unread = (
  elim unread.0 [
    | inl here ↦ r.touched at (subst (λ (es : Rows Edit). IsTouched es at) (sym is) (inl here))
    | inr never ↦ absurd never
  ],
  unread.1 ∙ ap raised quiet,
  unread.2,
)
unread_one told start all texts left rest path edit before mid now NoMemory r is quiet unread = tt
