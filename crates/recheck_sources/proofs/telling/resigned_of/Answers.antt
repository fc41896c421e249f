use Rattle.std.proofs.Common.{sym, ◌∙◌, arith}
use Rattle.export_counts.specs.source_front.specs.declared.parse.Parse.{Parse}
use Rattle.recheck_sources.specs.Keeping.{signatures_of}
use Rattle.recheck_sources.proofs.Loops.{mapped_at, many_mapped, seen_at, off_at, Tells, each_more, tells_here, none_other, they_tell, kept_mapped}
use Rattle.recheck_sources.proofs.telling.resigned_of.Goals as goal

pub signature_flag-flag-requires : goal.signature_flag-flag-requires
signature_flag-flag-requires c = λ off.
    none_other (signatures_of c.args.was.now) c.args.from.now (signatures_of c.args.parses.now) c.args.fresh.now c.loop-i.i c.get-parse.result.now.sig
    (kept_mapped (λ (p : Parse). p.sig) c.args.was.now c.args.from.now c.args.fresh.now c.args.parses.now c.requires.kept) (off_at c.args.fresh.now c.loop-i.i (let f = c.requires.fresh in omega arith) off)
    (mapped_at (λ (p : Parse). p.sig) c.args.parses.now c.loop-i.i c.get-parse.result.now (seen_at c.args.parses.now c.loop-i.i c.index-parses-i.result c.get-parse.result.now (omega arith) c.index-parses-i.is c.get-parse.ensures))

pub loop-i-preserved : goal.loop-i-preserved
loop-i-preserved c =
    each_more (Tells (signatures_of c.args.was.now) c.args.from.now (signatures_of c.args.parses.now)) c.loop-i.i c.signature_flag-flag.result c.loop-i.flags.items c.push.new.self.items c.loop-i.invariant
    (tells_here (signatures_of c.args.was.now) c.args.from.now (signatures_of c.args.parses.now) c.loop-i.i c.get-parse.result.now.sig c.signature_flag-flag.result
    (mapped_at (λ (p : Parse). p.sig) c.args.parses.now c.loop-i.i c.get-parse.result.now (seen_at c.args.parses.now c.loop-i.i c.index-parses-i.result c.get-parse.result.now (omega arith) c.index-parses-i.is c.get-parse.ensures)) c.signature_flag-flag.ensures)
    c.in_ok-push.ensures.items

pub returns : goal.returns
returns c =
    let many = many_mapped (λ (p : Parse). p.sig) c.args.parses.now in
    they_tell (signatures_of c.args.was.now) c.args.from.now (signatures_of c.args.parses.now) c.loop-i.i c.loop-i.flags.items (omega (arith, many)) (c.requires.from ∙ sym many) c.loop-i.invariant
