use Rattle.filt_compile.proofs.Ranging as r
use Rattle.filt_compile.proofs.ranges.ranged.Goals as goal

pub returns-in_ok-range-in-Attribute : goal.returns-in_ok-range-in-Attribute
returns-in_ok-range-in-Attribute c =
    r.attribute_ranged c.in-Attribute.a c.in-Attribute.op c.in-Attribute.n c.in_ok-number-in-Attribute.number c.in_ok-range-in-Attribute.range c.args.what c.in-Attribute.is c.in_ok-number-in-Attribute.ensures c.in_ok-range-in-Attribute.ensures

pub returns-in_ok-range-in-Property : goal.returns-in_ok-range-in-Property
returns-in_ok-range-in-Property c =
    r.part_ranged c.in-Property.a c.in-Property.property c.in-Property.op c.in-Property.n c.in_ok-number-in-Property.number c.in_ok-range-in-Property.range c.args.what c.in-Property.is c.in_ok-number-in-Property.ensures c.in_ok-range-in-Property.ensures
