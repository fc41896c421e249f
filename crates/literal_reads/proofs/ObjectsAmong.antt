-- Which objects take the properties of a literal, one after another.
use Rattle.std.proofs.Common.{◌≡◌, ℕ, ◌+◌, ◌<◌, Bool, true, false, ◌&&◌, List, [], ◌∷◌, ◌++◌, map, filter, length, drop, take, get_or, Option, Some, None, cond, refl, sym, ap, ◌∙◌, append_assoc, append-nil, arith}
use Rattle.std.specs.Borrow.{Bor}
use Rattle.std.specs.List.{cons_option, filter_map, list_all}
use Rattle.std.specs.Option.{option_map, is_some, option_to_list}
use Rattle.std.proofs.lemmas.List.{drop_more, map_push}
use Rattle.std.proofs.lemmas.List.Elements.{filter-append, filter_map-append}
use Rattle.type_values.specs.declared.types.FlowType.{FlowType, out-FlowType}
use Rattle.flow_facts.specs.Cells.{Level}
use Rattle.typing.specs.States.{World}
use Rattle.typing.specs.Members.{the_one}
use Rattle.typing.specs.Objects as typing
use Rattle.check_world.proofs.Levels.{levels_more}
use Rattle.literal_reads.specs.declared.entries.Entry.{Entry}
use Rattle.literal_reads.specs.declared.candidate.Candidate.{Candidate}
use Rattle.literal_reads.specs.Keys.{entry_view, rows_view}
use Rattle.literal_reads.specs.Accepting.{accepts}
use Rattle.literal_reads.specs.View.{candidate_view, levels_seen}

-- ---- each property is accepted

module _ (w : World) (entries : List typing.Entry) (c : typing.Candidate) where
  all_of_those_that_count : (rows : List typing.Entry) → list_all (accepts w entries c) rows ≡ list_all (λ entry. typing.takes_value w entry.name entry.literal c) (filter (typing.counts entries) rows)
  all_of_those_that_count [] = refl
  all_of_those_that_count (e ∷ rows) = go (typing.counts entries e) (all_of_those_that_count rows)
    where
      go : (b : Bool) → list_all (accepts w entries c) rows ≡ list_all (λ entry. typing.takes_value w entry.name entry.literal c) (filter (typing.counts entries) rows) →
          cond b (typing.takes_value w e.name e.literal c) true && list_all (accepts w entries c) rows
          ≡ list_all (λ entry. typing.takes_value w entry.name entry.literal c) (cond b (e ∷ filter (typing.counts entries) rows) (filter (typing.counts entries) rows))
      go true rest = ap (λ (r : Bool). typing.takes_value w e.name e.literal c && r) rest
      go false rest = rest

  at_row : (rows : List Entry) (i : ℕ) (row : Entry) → i < length rows → row ≡ get_or rows i row →
      list_all (accepts w entries c) (rows_view (drop i rows)) ≡ accepts w entries c (entry_view row) && list_all (accepts w entries c) (rows_view (drop (i + 1) rows))
  at_row rows i row within at =
      ap (λ (l : List Entry). list_all (accepts w entries c) (rows_view l))
      (drop_more rows i row within ∙ ap (λ (r : Entry). r ∷ drop (i + 1) rows) (sym at))

  pub accepts_next : (rows : List Entry) (i : ℕ) (row : Entry) (taken : Bool) → i < length rows → row ≡ get_or rows i row → taken ≡ accepts w entries c (entry_view row) → taken ≡ true →
      typing.is_candidate w entries c ≡ list_all (accepts w entries c) (rows_view (drop i rows)) → typing.is_candidate w entries c ≡ list_all (accepts w entries c) (rows_view (drop (i + 1) rows))
  accepts_next rows i row taken within at is e so_far =
      so_far ∙ at_row rows i row within at ∙ ap (λ (b : Bool). b && list_all (accepts w entries c) (rows_view (drop (i + 1) rows))) (sym is ∙ e)

  pub accepts_not : (rows : List Entry) (i : ℕ) (row : Entry) (taken : Bool) → i < length rows → row ≡ get_or rows i row → taken ≡ accepts w entries c (entry_view row) → taken ≡ false →
      typing.is_candidate w entries c ≡ list_all (accepts w entries c) (rows_view (drop i rows)) → false ≡ typing.is_candidate w entries c
  accepts_not rows i row taken within at is e so_far =
      sym (so_far ∙ at_row rows i row within at ∙ ap (λ (b : Bool). b && list_all (accepts w entries c) (rows_view (drop (i + 1) rows))) (sym is ∙ e))

  pub accepts_all : (rows : List Entry) → rows_view rows ≡ entries → typing.is_candidate w entries c ≡ list_all (accepts w entries c) (rows_view rows)
  accepts_all rows is = sym (ap (list_all (accepts w entries c)) is ∙ all_of_those_that_count entries)

-- ---- the objects among members

objects_last : (levels : List Level) (level : Level) → filter_map typing.object_of (levels ++ level ∷ []) ≡ filter_map typing.object_of levels ++ option_to_list (typing.object_of level)
objects_last levels level = filter_map-append typing.object_of levels (level ∷ []) ∙ ap (λ (l : List typing.Candidate). filter_map typing.object_of levels ++ l) (go (typing.object_of level))
  where
    go : (o : Option typing.Candidate) → cons_option o [] ≡ option_to_list o
    go None = refl
    go (Some c) = refl

pub objects_next : (members : List (Bor FlowType)) (i : ℕ) (member : Bor FlowType) (found : Option Candidate) (c : Candidate) (all all' : List Candidate) → i < length members → member ≡ get_or members i member →
    option_map candidate_view found ≡ typing.object_of (out-FlowType member.now) → found ≡ Some c → all' ≡ all ++ c ∷ [] →
    map candidate_view all ≡ filter_map typing.object_of (levels_seen (take i members)) → map candidate_view all' ≡ filter_map typing.object_of (levels_seen (take (i + 1) members))
objects_next members i member found c all all' within at is some pushed so_far =
    ap (map candidate_view) pushed ∙ map_push candidate_view all c ∙ ap (λ (k : List typing.Candidate). k ++ candidate_view c ∷ []) so_far
    ∙ ap (λ (o : Option typing.Candidate). filter_map typing.object_of (levels_seen (take i members)) ++ option_to_list o) (ap (option_map candidate_view) (sym some) ∙ is)
    ∙ sym (ap (filter_map typing.object_of) (levels_more members i member within at) ∙ objects_last (levels_seen (take i members)) (out-FlowType member.now))

pub objects_not : (members : List (Bor FlowType)) (i : ℕ) (member : Bor FlowType) (found : Option Candidate) (all : List Candidate) → i < length members → member ≡ get_or members i member →
    option_map candidate_view found ≡ typing.object_of (out-FlowType member.now) → found ≡ None →
    map candidate_view all ≡ filter_map typing.object_of (levels_seen (take i members)) → map candidate_view all ≡ filter_map typing.object_of (levels_seen (take (i + 1) members))
objects_not members i member found all within at is none_found so_far =
    so_far ∙ sym (append-nil (filter_map typing.object_of (levels_seen (take i members))))
    ∙ ap (λ (o : Option typing.Candidate). filter_map typing.object_of (levels_seen (take i members)) ++ option_to_list o) (ap (option_map candidate_view) (sym none_found) ∙ is)
    ∙ sym (ap (filter_map typing.object_of) (levels_more members i member within at) ∙ objects_last (levels_seen (take i members)) (out-FlowType member.now))

-- ---- the one that takes all

left_last : (takes : typing.Candidate → Bool) (rest : List Candidate) (c : Candidate) (b : Bool) → takes (candidate_view c) ≡ b → filter takes (map candidate_view (rest ++ c ∷ [])) ≡ filter takes (map candidate_view rest) ++ cond b (candidate_view c ∷ []) []
left_last takes rest c b is =
    ap (filter takes) (map_push candidate_view rest c) ∙ filter-append takes (map candidate_view rest) (candidate_view c ∷ [])
    ∙ ap (λ (d : Bool). filter takes (map candidate_view rest) ++ cond d (candidate_view c ∷ []) []) is

-- those that take all: of the rest, and the one that was found
abbrev pub IsLeft : World → List typing.Entry → List Candidate → Option Candidate → List typing.Candidate → Type 0
IsLeft w entries rest found all = all ≡ filter (typing.is_candidate w entries) (map candidate_view rest) ++ option_to_list (option_map candidate_view found)

two_apart : (l : List typing.Candidate) (a b : typing.Candidate) → None ≡ the_one (l ++ a ∷ b ∷ [])
two_apart [] a b = refl
two_apart (x ∷ []) a b = refl
two_apart (x ∷ y ∷ l) a b = refl

pub one_none : (w : World) (entries : List typing.Entry) (rest : List Candidate) (found : Option Candidate) (all : List typing.Candidate) → rest ≡ [] → IsLeft w entries rest found all → option_map candidate_view found ≡ the_one all
one_none w entries rest found all done left = go found (left ∙ ap (λ (l : List Candidate). filter (typing.is_candidate w entries) (map candidate_view l) ++ option_to_list (option_map candidate_view found)) done)
  where
    go : (o : Option Candidate) → all ≡ [] ++ option_to_list (option_map candidate_view o) → option_map candidate_view o ≡ the_one all
    go None e = ap the_one (sym e)
    go (Some c) e = ap the_one (sym e)

pub one_two : (w : World) (entries : List typing.Entry) (before rest : List Candidate) (c : Candidate) (found : Option Candidate) (all : List typing.Candidate) → before ≡ rest ++ c ∷ [] → true ≡ typing.is_candidate w entries (candidate_view c) → is_some found ≡ true →
    IsLeft w entries before found all → None ≡ the_one all
one_two w entries before rest c found all is takes_it some left = go found some left
  where
    go : (o : Option Candidate) → is_some o ≡ true → IsLeft w entries before o all → None ≡ the_one all
    go None e l = absurd (cc)
    go (Some f) e l =
        two_apart (filter (typing.is_candidate w entries) (map candidate_view rest)) (candidate_view c) (candidate_view f)
        ∙ ap the_one (sym (l ∙ ap (λ (k : List typing.Candidate). k ++ candidate_view f ∷ []) (ap (λ (b : List Candidate). filter (typing.is_candidate w entries) (map candidate_view b)) is ∙ left_last (typing.is_candidate w entries) rest c true (sym takes_it)) ∙ append_assoc (filter (typing.is_candidate w entries) (map candidate_view rest)) (candidate_view c ∷ []) (candidate_view f ∷ [])))

pub one_new : (w : World) (entries : List typing.Entry) (before rest : List Candidate) (c : Candidate) (found : Option Candidate) (all : List typing.Candidate) → before ≡ rest ++ c ∷ [] → true ≡ typing.is_candidate w entries (candidate_view c) → is_some found ≡ false →
    IsLeft w entries before found all → IsLeft w entries rest (Some c) all
one_new w entries before rest c found all is takes_it none_found left = go found none_found left
  where
    go : (o : Option Candidate) → is_some o ≡ false → IsLeft w entries before o all → IsLeft w entries rest (Some c) all
    go (Some f) e l = absurd (cc)
    go None e l = l ∙ append-nil (filter (typing.is_candidate w entries) (map candidate_view before)) ∙ ap (λ (b : List Candidate). filter (typing.is_candidate w entries) (map candidate_view b)) is ∙ left_last (typing.is_candidate w entries) rest c true (sym takes_it)

pub one_old : (w : World) (entries : List typing.Entry) (before rest : List Candidate) (c : Candidate) (found : Option Candidate) (all : List typing.Candidate) → before ≡ rest ++ c ∷ [] → false ≡ typing.is_candidate w entries (candidate_view c) →
    IsLeft w entries before found all → IsLeft w entries rest found all
one_old w entries before rest c found all is leaves left =
    left ∙ ap (λ (k : List typing.Candidate). k ++ option_to_list (option_map candidate_view found))
    (ap (λ (b : List Candidate). filter (typing.is_candidate w entries) (map candidate_view b)) is ∙ left_last (typing.is_candidate w entries) rest c false (sym leaves) ∙ append-nil (filter (typing.is_candidate w entries) (map candidate_view rest)))

-- ---- the one candidate

pub among_one : (w : World) (entries : List typing.Entry) (any : Bool) (all rest : List Candidate) (c : Candidate) (objects : List typing.Candidate) → any ≡ false → length all ≡ 1 → all ≡ rest ++ c ∷ [] → map candidate_view all ≡ objects →
    Some (candidate_view c) ≡ typing.candidate_among w entries any objects
among_one w entries any all [] c objects none_any one is views =
    ap (λ (l : List typing.Candidate). typing.candidate_among w entries false l) (ap (map candidate_view) (sym is) ∙ views) ∙ ap (λ (b : Bool). typing.candidate_among w entries b objects) (sym none_any)
among_one w entries any all (x ∷ rest) c objects none_any one is views = absurd (longer rest (sym one ∙ ap length is))
  where
    longer : (l : List Candidate) → 1 ≡ length (x ∷ (l ++ c ∷ [])) → ⊥
    longer [] e = omega arith
    longer (y ∷ l) e = omega arith

pub among_any : (w : World) (entries : List typing.Entry) (any : Bool) (objects : List typing.Candidate) → any ≡ true → the_one (filter (typing.is_candidate w entries) objects) ≡ typing.candidate_among w entries any objects
among_any w entries any objects is = ap (λ (b : Bool). typing.candidate_among w entries b objects) (sym is)

pub among_more : (w : World) (entries : List typing.Entry) (any : Bool) (objects : List typing.Candidate) → (length objects ≡ 1 → ⊥) → the_one (filter (typing.is_candidate w entries) objects) ≡ typing.candidate_among w entries any objects
among_more w entries true objects apart = refl
among_more w entries false [] apart = refl
among_more w entries false (c ∷ []) apart = absurd (apart refl)
among_more w entries false (c ∷ d ∷ objects) apart = refl
