use Rattle.filt_compile.proofs.Ranging as r
use Rattle.filt_compile.proofs.ranges.attribute_number.Goals as goal

pub returns-in-BgpMed : goal.returns-in-BgpMed
returns-in-BgpMed c = rw (c.in-BgpMed.is) (λ around attrs. r.known_is attrs.med)

pub returns-in-BgpLocalPref : goal.returns-in-BgpLocalPref
returns-in-BgpLocalPref c = rw (c.in-BgpLocalPref.is) (λ around attrs. r.known_is attrs.lp)

pub returns-in-IgpMetric : goal.returns-in-IgpMetric
returns-in-IgpMetric c = rw (c.in-IgpMetric.is) (λ around attrs. r.known_is attrs.igp)
