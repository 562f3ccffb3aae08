pub mod FollowedLaws
