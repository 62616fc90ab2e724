-- What is defined is read.
use Rattle.std.proofs.Common.{◌≡◌, true, Option, Some, None, Ok, refl}
use Rattle.attrs.specs.declared.attributes.Attrs.{Attrs}
use Rattle.conf_ast.specs.declared.attribute.Attribute.{Attribute}
use Rattle.conf_ast.specs.declared.attribute.Attribute.TheVariants as attributes
use Rattle.filt_meaning.specs.Values.{Val, VInt, VIp, VOrigin}
use Rattle.filt_meaning.specs.Attributes.{attribute_of, is_defined, is_some, defined_as}
use Rattle.filt_meaning.specs.Names.{Around}

there_is : {A : Type 0} (f : A → Val) (o : Option A) → is_some o ≡ true
    → (v : Val) × (defined_as f o ≡ Ok v)
there_is f None h = cc
there_is f (Some a) h = (f a, refl)

pub defined_reads : (a : Attribute) (around : Around) (attrs : Attrs) → is_defined a attrs ≡ true
    → (v : Val) × (attribute_of around a attrs ≡ Ok v)
defined_reads attributes.Net around attrs h = (_, refl)
defined_reads attributes.Preference around attrs h = (_, refl)
defined_reads attributes.Gw around attrs h = there_is VIp attrs.gw h
defined_reads attributes.From around attrs h = there_is VIp attrs.sender h
defined_reads attributes.BgpNextHop around attrs h = there_is VIp attrs.next_hop h
defined_reads attributes.Proto around attrs h = (_, refl)
defined_reads attributes.Source around attrs h = (_, refl)
defined_reads attributes.Dest around attrs h = (_, refl)
defined_reads attributes.BgpPath around attrs h = (_, refl)
defined_reads attributes.BgpOrigin around attrs h = there_is VOrigin attrs.origin h
defined_reads attributes.BgpMed around attrs h = there_is VInt attrs.med h
defined_reads attributes.BgpLocalPref around attrs h = there_is VInt attrs.lp h
defined_reads attributes.IgpMetric around attrs h = there_is VInt attrs.igp h
defined_reads attributes.BgpCommunity around attrs h = (_, refl)
