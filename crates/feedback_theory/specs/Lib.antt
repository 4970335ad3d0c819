pub mod FeedbackSets
