pub mod CcmLaws
pub mod TagParts
pub mod Opening
