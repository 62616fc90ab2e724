mod ConfigurationTrees
mod ConfigurationsBack
mod Equations
mod ExpressionsBack
mod ItemsBack
mod StatementsBack
mod TypesBack
mod WordsBack
