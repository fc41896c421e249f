-- A job, part by part.
use Rattle.std.proofs.Common.{◌≡◌, List, Some, sym, ap, ◌∙◌, subst}
use Rattle.std.specs.List.{AllByRecursion}
use Rattle.check_values.specs.Rows.{Bytes, row_at}
use Rattle.check_values.specs.declared.root.RootRow.{RootRow}
use Rattle.check_values.specs.declared.signatures.Deps.{Deps}
use Rattle.place_analyst.specs.source_front.specs.declared.parse.Parse.{Parse}
use Rattle.place_analyst.specs.source_front.specs.Front.{IsParse}
use Rattle.errors_by_reach.specs.Law.{Agree}
use Rattle.place_analyst.specs.check_job.specs.declared.job.CheckJob.{CheckJob}
use Rattle.heap_answers.specs.program_check.specs.Full.{deps_in}
use Rattle.check_values.specs.Roots.{paths_of_rows}
use Rattle.heap_answers.specs.States.{HasPlace, sigs_by}
use Rattle.heap_answers.specs.payloads.specs.declared.payload.Payload.{Payload}
use Rattle.request_core.specs.States.{parse_at, deps_at, IsRead}
use Rattle.request_core.specs.CheckedBy.{IsJobOf, IsJobInstead}

-- ---- states that are the same

pub later_place : (state later : List Payload) (m : RootRow) → later ≡ state → HasPlace state m → HasPlace later m
later_place state later m same place = subst (λ (st : List Payload). HasPlace st m) (sym same) place

pub later_read : (state later : List Payload) (m : RootRow) → later ≡ state → IsRead state m → IsRead later m
later_read state later m same read = subst (λ (st : List Payload). IsRead st m) (sym same) read

pub later_places : (state next later : List Payload) (ms : List RootRow) → next ≡ state → later ≡ next → AllByRecursion (HasPlace state) ms → AllByRecursion (HasPlace later) ms
later_places state next later ms first then places = subst (λ (st : List Payload). AllByRecursion (HasPlace st) ms) (sym (then ∙ first)) places

-- ---- jobs

pub job_made : (state next later : List Payload) (ms : List RootRow) (m : RootRow) (job : CheckJob) (parse : Parse) (deps seen : Deps) → next ≡ state → later ≡ next → job.path ≡ m.path → job.parse ≡ parse → job.deps ≡ deps
    → parse_at state m.row ≡ Some parse → deps_at next m.row ≡ Some deps → seen ≡ deps → Agree (sigs_by later ms) seen (row_at job.sigs.rows) → IsJobOf state ms m job
job_made state next later ms m job parse deps seen first then path is_parse is_deps parse_there deps_there same agree = record {
  path = path;
  parse = parse_there ∙ ap Some (sym is_parse);
  deps = ap (λ (st : List Payload). deps_at st m.row) (sym first) ∙ (deps_there ∙ ap Some (sym is_deps));
  signed = subst (λ (ds : Deps). Agree (sigs_by state ms) ds (row_at job.sigs.rows)) (same ∙ sym is_deps) (subst (λ (st : List Payload). Agree (sigs_by st ms) seen (row_at job.sigs.rows)) (then ∙ first) agree);
}

pub job_made_instead : (state : List Payload) (ms rows : List RootRow) (path text : Bytes) (job : CheckJob) (parse : Parse) (deps : Deps) → rows ≡ ms → job.path ≡ path → job.parse ≡ parse → job.deps ≡ deps → IsParse text parse
    → deps ≡ deps_in (paths_of_rows ms) path parse → Agree (sigs_by state rows) deps (row_at job.sigs.rows) → IsJobInstead state ms path text job
job_made_instead state ms rows path text job parse deps same at is_parse is_deps parsed listed agree = record {
  at_path = at;
  parse = subst (IsParse text) (sym is_parse) parsed;
  deps = is_deps ∙ (listed ∙ ap (deps_in (paths_of_rows ms) path) (sym is_parse));
  signed = subst (λ (ds : Deps). Agree (sigs_by state ms) ds (row_at job.sigs.rows)) (sym is_deps) (subst (λ (l : List RootRow). Agree (sigs_by state l) deps (row_at job.sigs.rows)) same agree);
}
