use Rattle.std.proofs.Common.{◌∙◌, ap}
use Rattle.outside_io.specs.Memory.{held_in, lacked_in}
use Rattle.outside_io.proofs.Counts.{held_kept, lacked_kept, has_cause, missed_more, none_fell, others_stay}
use Rattle.outside_io.proofs.memory.MemShelfShelf.read_at.Goals as goal

pub returns-then-is_err-clause-held : goal.returns-then-is_err-clause-held
returns-then-is_err-clause-held c = ap held_in c.count.ensures.files ∙ held_kept c.args.self.now.files.items c.args.name.now

pub returns-then-is_err-clause-lacks : goal.returns-then-is_err-clause-lacks
returns-then-is_err-clause-lacks c = ap lacked_in c.count.ensures.files ∙ lacked_kept c.args.self.now.files.items c.args.name.now

pub returns-then-is_err-clause-by_name : goal.returns-then-is_err-clause-by_name
returns-then-is_err-clause-by_name c =
    has_cause _ _ c.read-result.result
    (rw (c.count.ensures.files, c.count.ensures.missing) (missed_more c.args.self.now.files.items c.args.self.now.missing c.args.name.now))

pub returns-then-is_err-clause-none_fell : goal.returns-then-is_err-clause-none_fell
returns-then-is_err-clause-none_fell c =
    rw (c.count.ensures.files, c.count.ensures.missing) (none_fell c.args.self.now.files.items c.args.self.now.missing c.args.name.now)

pub returns-then-is_err-clause-others : goal.returns-then-is_err-clause-others
returns-then-is_err-clause-others c =
    rw c.count.ensures.files (others_stay c.args.self.now.files.items c.args.self.now.missing c.count.new.self.missing c.args.name.now)
