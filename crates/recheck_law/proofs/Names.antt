-- Reach is reach by names.
use Rattle.std.proofs.Common.{◌≡◌, true}
use Rattle.flow_base.specs.Program.{Bytes}
use Rattle.check_values.specs.declared.signatures.Deps.{Deps}
use Rattle.merged_signatures.specs.Reach.{Reach, by_specifier, by_signature}
use Rattle.errors_by_reach.specs.Seen.{Sigs}
use Rattle.affected_law.specs.Affected.{Checked, by_text, by_deps, by_reach}
use Rattle.recheck_law.specs.Names.{IsFound, LeadsByNames, itself, further, ReachIsByNames, AgreeIsByNames, MarksKeepNames, CheckedByNames, text_differs, deps_differ, finds_moved, CheckedIsByNames}

module _ (sigs : Sigs) (deps : Deps) where
  there : (other : Bytes) → Reach sigs deps other → (first : Bytes) × IsFound deps first × LeadsByNames sigs first other
  there _ (by_specifier spec path is) = (path, (spec, is), itself)
  there _ (by_signature path other s reach at named) = let r = there path reach in (r.0, r.1, further path other r.2 (s, at, named))

  back : (first other : Bytes) → IsFound deps first → LeadsByNames sigs first other → Reach sigs deps other
  back first _ found itself = by_specifier found.0 first found.1
  back first _ found (further path other leads named) = by_signature path other named.0 (back first path found leads) named.1 named.2

pub reach_is_by_names : ReachIsByNames
reach_is_by_names sigs deps other = (there sigs deps other, λ way. back sigs deps way.0 other way.1 way.2)

pub agree_is_by_names : AgreeIsByNames
agree_is_by_names sigs others deps =
    (λ agree first found other leads. agree other (back sigs deps first other found leads), λ keeps path reach. (let r = there sigs deps path reach in keeps r.0 r.1 path r.2))

pub marks_keep_names : MarksKeepNames
marks_keep_names others sigs marked closed same path here other leads = same other (onward other leads)
  where
    onward : (other : Bytes) → LeadsByNames sigs path other → marked other ≡ true
    onward _ itself = here
    onward _ (further q other leads named) = closed q other (onward q leads) named

pub checked_is_by_names : CheckedIsByNames
checked_is_by_names old new before after path = (onward, again)
  where
    onward : Checked old new before after path → CheckedByNames old new before after path
    onward (by_text parsed) = text_differs parsed
    onward (by_deps r s was is differs) = deps_differ r s was is differs
    onward (by_reach s other is reach differs) = let r = there _ s.deps other reach in finds_moved s r.0 is r.1 (other, r.2, differs)

    again : CheckedByNames old new before after path → Checked old new before after path
    again (text_differs parsed) = by_text parsed
    again (deps_differ r s was is differs) = by_deps r s was is differs
    again (finds_moved s first is found moved) = by_reach s moved.0 is (back _ s.deps first moved.0 found moved.1) moved.2
