use Rattle.std.proofs.Common.{refl}
use Rattle.phase_pipes.proofs.Porting.{back_alone, out_alone, own_alone, own_mine}
use Rattle.phase_pipes.proofs.laws.each_source_has_one_port.Goals as goal

pub returns-clause-out : goal.returns-clause-out
returns-clause-out c = λ setup number out back protocol pipe stood is here body belong out_of back_of.
    out_alone setup is (c.setups_are_as_asked.ensures setup is) number out back protocol pipe stood here body belong out_of back_of

pub returns-clause-back : goal.returns-clause-back
returns-clause-back c = λ setup number out back protocol pipe stood is here body belong out_of back_of.
    back_alone setup is (c.setups_are_as_asked.ensures setup is) number out back protocol pipe stood here body belong out_of back_of

pub returns-clause-own : goal.returns-clause-own
returns-clause-own c = λ setup number protocol source stood is here body.
    let are = c.setups_are_as_asked.ensures setup is in
    record { mine = own_mine setup is are number protocol source stood here body; alone = own_alone setup is are number protocol source stood here body }

pub returns-clause-begins : goal.returns-clause-begins
returns-clause-begins c = λ cells setup number stood. record { start = refl; family = refl; rows = refl }
