use Rattle.std.proofs.Common.{ap, ◌∙◌}
use Rattle.check_values.specs.declared.signatures.LocalSig.{LocalSig}
use Rattle.check_values.specs.declared.signatures.Deps.{Deps}
use Rattle.job_ends.proofs.Lists.{aliases_named, imports_named, founds_named}
use Rattle.job_ends.proofs.member.Member.new.Goals as goal

pub invariant_of-result : goal.invariant_of-result
invariant_of-result c = record {
  of_aliases = aliases_named c.in_ok-aliases.aliases c.in_ok-alias_rows.field-0.items c.as_slice.result.now c.args.member.now.sig.aliases c.in_ok-aliases.ensures c.in_ok-alias_rows.ensures
      (c.as_slice.ensures ∙ ap (λ (s : LocalSig). s.aliases) c.get-sig.ensures);
  of_imports = imports_named c.in_ok-imports.imports c.in_ok-import_rows.field-0.items c.as_slice-2.result.now c.args.member.now.sig.imports c.in_ok-imports.ensures c.in_ok-import_rows.ensures
      (c.as_slice-2.ensures ∙ ap (λ (s : LocalSig). s.imports) c.get-sig.ensures);
  of_founds = founds_named c.in_ok-founds.founds c.in_ok-found_rows.field-0.items c.as_slice-3.result.now c.args.member.now.deps c.in_ok-founds.ensures c.in_ok-found_rows.ensures
      (c.as_slice-3.ensures ∙ ap (λ (d : Deps). d.rows) c.get-deps.ensures);
}
