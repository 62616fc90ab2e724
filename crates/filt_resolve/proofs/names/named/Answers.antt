use Rattle.std.proofs.Common.{refl}
use Rattle.filt_meaning.specs.Scopes.{context_of, tables_of}
use Rattle.filt_resolve.proofs.Taken as w
use Rattle.filt_resolve.proofs.Placed.{local_same, constant_same, unknown_same}
use Rattle.filt_resolve.proofs.names.named.Goals as goal

pub returns-in-Some-clause-meaning : goal.returns-in-Some-clause-meaning
returns-in-Some-clause-meaning c = λ around. local_same (tables_of around c.args.scope.now) (context_of c.args.text.now around c.args.scope.now c.args.names.now) c.args.name.now c.in-Some.slot c.args.names.now c.bytes.result.now c.bytes.ensures refl c.in-Some.ensures

pub returns-in-Some-constant-clause-meaning : goal.returns-in-Some-constant-clause-meaning
returns-in-Some-constant-clause-meaning c = λ around. constant_same (tables_of around c.args.scope.now) (context_of c.args.text.now around c.args.scope.now c.args.names.now) c.args.name.now c.in-Some-constant.number c.args.names.now c.bytes.result.now c.bytes.ensures refl c.in-None.ensures (c.in-Some-constant.ensures around c.args.names.now)

pub returns-in-None-constant-clause-meaning : goal.returns-in-None-constant-clause-meaning
returns-in-None-constant-clause-meaning c = λ around. unknown_same (tables_of around c.args.scope.now) (context_of c.args.text.now around c.args.scope.now c.args.names.now) c.args.name.now c.args.names.now c.bytes.result.now c.bytes.ensures refl c.in-None.ensures (c.in-None-constant.ensures around c.args.names.now)

pub returns-in-Some-clause-steps : goal.returns-in-Some-clause-steps
returns-in-Some-clause-steps c = λ called. w.steps-Local called c.in-Some.slot

pub returns-in-Some-constant-clause-steps : goal.returns-in-Some-constant-clause-steps
returns-in-Some-constant-clause-steps c = λ called. w.steps-Constant called c.in-Some-constant.number

pub returns-in-None-constant-clause-steps : goal.returns-in-None-constant-clause-steps
returns-in-None-constant-clause-steps c = λ called. w.steps-Stuck called
