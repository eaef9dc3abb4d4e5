pub mod DipoleGenus
pub mod GluedNumbers
mod NumberedLists
mod SideBySide
mod GluedNames
pub mod GluedPairs
pub mod ListedPartners
pub mod GluedDarts
pub mod GluedTables
pub mod GluedGenus
mod PartPlaces
pub mod StarCode
pub mod StarSystems
pub mod StarGenus
pub mod StarBlocks
pub mod StarSplits
pub mod BareVertices
pub mod RestrictedSystems
pub mod SplitVertices
pub mod SplitParts
pub mod RestrictionLaws
pub mod SplitRuns
pub mod NamedMaps
pub mod PoleLists
pub mod PoleMaps
pub mod PermutedPoles
pub mod PoleParts
pub mod PermutedSystems
pub mod PoleRows
pub mod SideSteps
pub mod SideMerging
pub mod SideEnds
pub mod SideCorners
pub mod SideCode
