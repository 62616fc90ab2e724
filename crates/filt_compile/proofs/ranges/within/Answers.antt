use Rattle.filt_compile.proofs.Ranging as r
use Rattle.filt_compile.proofs.ranges.within.Goals as goal

pub returns-in-Equal : goal.returns-in-Equal
returns-in-Equal c = rw (c.in-Equal.is) (r.equals c.args.number c.args.n c.between.result c.between.ensures)

pub returns-in-NotEqual : goal.returns-in-NotEqual
returns-in-NotEqual c = rw (c.in-NotEqual.is) (r.differs c.args.number c.args.n c.between-in-NotEqual.result c.between-in-NotEqual.ensures)

pub returns-in-Less : goal.returns-in-Less
returns-in-Less c = rw (c.in-Less.is) (r.less c.args.number c.args.n c.below.result c.below.ensures)

pub returns-in-LessOrEqual : goal.returns-in-LessOrEqual
returns-in-LessOrEqual c = rw (c.in-LessOrEqual.is) (r.up_to c.args.number c.args.n c.between-in-LessOrEqual.result c.between-in-LessOrEqual.ensures)

pub returns-in-Greater : goal.returns-in-Greater
returns-in-Greater c = rw (c.in-Greater.is) (r.above c.args.number c.args.n c.between-in-Greater.result c.between-in-Greater.ensures)

pub returns-in-GreaterOrEqual : goal.returns-in-GreaterOrEqual
returns-in-GreaterOrEqual c = rw (c.in-GreaterOrEqual.is) (r.not_less c.args.number c.args.n c.below-in-GreaterOrEqual.result c.below-in-GreaterOrEqual.ensures)
