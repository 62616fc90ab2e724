pub mod Behind
pub mod BgpSteps
pub mod ChannelSteps
pub mod ConfigSteps
pub mod FunctionSteps
pub mod Known
pub mod LastStatement
pub mod LastWord
pub mod OneOf
pub mod OptionSteps
pub mod PlaceSteps
mod PlacesOnce
pub mod PolicySteps
pub mod ProtocolSteps
pub mod ReadAnswers
pub mod Refusals
mod RefusalsOnce
pub mod RouteSteps
pub mod RowSteps
pub mod Tested
pub mod TextRefusals
pub mod TextsOnce
pub mod Whole
