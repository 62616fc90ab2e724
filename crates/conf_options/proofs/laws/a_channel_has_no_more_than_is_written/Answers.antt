use Rattle.std.proofs.Common.{refl}
use Rattle.conf_options.specs.Kinds as kinds
use Rattle.conf_options.specs.Kinds.{channel_kind}
use Rattle.conf_options.specs.Options.{no_channel_options, with_channel_option}
use Rattle.conf_options.proofs.Apart.{channel_table, channel_import, channel_export, channel_preference, channel_limit}
use Rattle.conf_options.proofs.Folds.{none_is_none}
use Rattle.conf_options.proofs.laws.a_channel_has_no_more_than_is_written.Goals as goal

pub returns-clause-table : goal.returns-clause-table
returns-clause-table c = none_is_none with_channel_option channel_kind kinds.TableOfChannel (λ o. o.table) channel_table no_channel_options refl

pub returns-clause-import : goal.returns-clause-import
returns-clause-import c = none_is_none with_channel_option channel_kind kinds.ImportOfChannel (λ o. o.import) channel_import no_channel_options refl

pub returns-clause-export : goal.returns-clause-export
returns-clause-export c = none_is_none with_channel_option channel_kind kinds.ExportOfChannel (λ o. o.export) channel_export no_channel_options refl

pub returns-clause-preference : goal.returns-clause-preference
returns-clause-preference c = none_is_none with_channel_option channel_kind kinds.PreferenceOfChannel (λ o. o.preference) channel_preference no_channel_options refl

pub returns-clause-limit : goal.returns-clause-limit
returns-clause-limit c = none_is_none with_channel_option channel_kind kinds.LimitOfChannel (λ o. o.limit) channel_limit no_channel_options refl
